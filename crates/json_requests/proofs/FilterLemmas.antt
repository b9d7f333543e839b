-- Lists of some values.
use Rattle.std.proofs.Common.{◌≡◌, ◌∙◌, ◌≤◌, ap, sym, List, Option, [], ◌∷◌, ◌++◌, true, None, length, refl, arith}
use Rattle.std.specs.Prelude.{Err}
use Rattle.std.specs.Option.{option_map}
use Rattle.serde_json.specs.Data.{Data, array}
use Rattle.serde_json.specs.View.{view, items_view}
use Rattle.serde_json.specs.declared.value.Value.{Value}
use Rattle.json_shapes.specs.declared.fault.ShapeFault.TheVariants.{BadShape}
use Rattle.json_shapes.specs.Reading.{or_bad_shape}
use Rattle.json_requests.specs.Filters.{sole_item, item_pair, none_of}
use Rattle.json_requests.specs.ProtectedRanges.{has_items}

pub some_are_items : (values : List Value) → 1 ≤ length values → true ≡ has_items (array (items_view values))
some_are_items [] some = absurd (omega (arith, some))
some_are_items (first ∷ rest) some = refl

pub some_are_not_none : (values : List Value) → 1 ≤ length values
    → Err BadShape ≡ or_bad_shape (none_of (items_view values))
some_are_not_none [] some = absurd (omega (arith, some))
some_are_not_none (first ∷ rest) some = refl

pub sole_of_more : (front : List Value) (last : Value) → 1 ≤ length front
    → None ≡ sole_item (items_view (front ++ last ∷ []))
sole_of_more [] last some = absurd (omega (arith, some))
sole_of_more (first ∷ []) last some = refl
sole_of_more (first ∷ second ∷ rest) last some = refl

-- two values are one and a last one
pair_of : (front : List Value) (last : Value)
    → option_map (λ first. (first, view last)) (sole_item (items_view front))
    ≡ item_pair (items_view (front ++ last ∷ []))
pair_of [] last = refl
pair_of (first ∷ []) last = refl
pair_of (first ∷ second ∷ []) last = refl
pair_of (first ∷ second ∷ third ∷ rest) last = refl

pub pair_is : (values front : List Value) (last : Value) (found : Option Data) → found ≡ sole_item (items_view front)
    → values ≡ front ++ last ∷ []
    → option_map (λ first. (first, view last)) found ≡ item_pair (items_view values)
pair_is values front last found found_is values_are =
    ap (option_map (λ first. (first, view last))) found_is ∙ pair_of front last
    ∙ ap (λ all. item_pair (items_view all)) (sym values_are)
