-- What criteria that were made ready tell of a row.
use Rattle.std.proofs.Common.{◌≡◌, ◌<◌, ◌∙◌, ◌+◌, ◌||◌, ◌⊎◌, ◌++◌, ◌∷◌, [], ℕ, Bool, List, Option, None, Some, ap, cond, false, get_or, length, map, refl, subst, sym, take, true, ⊎_elim}
use Rattle.std.specs.Borrow.{Bor}
use Rattle.std.specs.BTreeSet.{BTreeSet}
use Rattle.std.specs.Cmp.Lexicographic.{slice_cmp}
use Rattle.std.specs.List.{AllZip}
use Rattle.std.specs.Option.{option_and_then, option_map_or}
use Rattle.std.specs.Ordering.{is_eq, nat_cmp}
use Rattle.std.specs.Prelude.{not}
use Rattle.std.specs.Str.{bytes_eq}
use Rattle.std.proofs.lemmas.List.{take_more}
use Rattle.std.proofs.lemmas.List.Folds.{list_any_more}
use Rattle.std.proofs.lemmas.Map.Text.{is_eq-slice_cmp}
use Rattle.cell_value.specs.Shown.{shown_text}
use Rattle.cell_value.specs.Texts.{is_among}
use Rattle.cell_value.specs.declared.cell.Value.{Value}
use Rattle.basic_filter.specs.Condition.{holds}
use Rattle.basic_filter.specs.Hiding.{hides, hides_shown}
use Rattle.basic_filter.specs.declared.types.Condition.{Condition}
use Rattle.basic_filter.specs.declared.types.Condition.TheVariants.{NumberGreater, NumberGreaterThanEq, NumberLess, NumberLessThanEq, NumberEq, NumberNotEq, NumberBetween, TextContains, TextNotContains, TextStartsWith, TextEndsWith, TextEq, Blank, NotBlank}
use Rattle.basic_filter.specs.declared.types.Criterion.{Criterion}
use Rattle.row_filter.specs.declared.condition.ReadyCondition.{ReadyCondition}
use Rattle.row_filter.specs.declared.criterion.ReadyCriterion.{ReadyCriterion}
use Rattle.row_filter.specs.Conditions.{condition_ready, ready_holds}
use Rattle.row_filter.specs.Criteria.{IsReady, IsSetOf, condition_left, criterion_left, has_text, ready_hides, some_hides}

-- ---- a set of texts

-- one that is there, or else what was
there_or : (before there : Bool) → cond there true before ≡ (before || there)
there_or true true = refl
there_or true false = refl
there_or false true = refl
there_or false false = refl

-- the set has one text more
pub IsSetOf-insert : (texts : List (List ℕ)) (at : ℕ) (one : List ℕ) (before after : BTreeSet (Bor (List ℕ)))
    (key : Bor (List ℕ)) → at < length texts → get_or texts at one ≡ one → key.now ≡ one
    → ((other : Bor (List ℕ)) → has_text other.now after.keys
    ≡ cond (is_eq (slice_cmp nat_cmp key.now other.now)) true (has_text other.now before.keys))
    → IsSetOf (take at texts) before → IsSetOf (take (at + 1) texts) after
IsSetOf-insert texts at one before after key there read is updates so_far text =
    updates (record key { now = text })
    ∙ ap (λ there. cond there true (has_text text before.keys)) (is_eq-slice_cmp key.now text)
    ∙ ap (cond (bytes_eq key.now text) true) (so_far text)
    ∙ there_or (is_among text (take at texts)) (bytes_eq key.now text)
    ∙ ap (λ other. is_among text (take at texts) || bytes_eq other text) (is ∙ sym read)
    ∙ sym (list_any_more (λ other. bytes_eq other text) texts at one there)

-- ---- criteria in two parts

zip_more : {A B : Type 0} (R : A → B → Type 0) (ones : List A) (others : List B) (one : A) (other : B)
    → AllZip R ones others → R one other → AllZip R (ones ++ one ∷ []) (others ++ other ∷ [])
zip_more R [] [] one other all more = (more, tt)
zip_more R [] (o ∷ os) one other all more = absurd all
zip_more R (o ∷ os) [] one other all more = absurd all
zip_more R (o ∷ os) (p ∷ ps) one other all more = (all.0, zip_more R os ps one other all.1 more)

-- one criterion more was made ready
pub IsReady-push : (criteria : List Criterion) (at : ℕ) (one : Criterion) (ready : List ReadyCriterion)
    (more : ReadyCriterion) → at < length criteria → get_or criteria at one ≡ one → IsReady one more
    → AllZip IsReady (take at criteria) ready → AllZip IsReady (take (at + 1) criteria) (ready ++ more ∷ [])
IsReady-push criteria at one ready more there read is so_far =
    subst (λ some. AllZip IsReady some (ready ++ more ∷ []))
    (sym (take_more criteria at one there ∙ ap (λ last. take at criteria ++ last ∷ []) read))
    (zip_more IsReady (take at criteria) ready one more so_far is)

-- the condition isn't true of a cell that has the value and shows the text, if there is one
abbrev pub fails : Option Condition → Value → List ℕ → Bool
fails condition value shown = option_map_or (λ condition. not (holds condition value shown)) condition false

-- the same of one that was made ready
abbrev pub ready_fails : Option ReadyCondition → List ℕ → Bool
ready_fails condition shown = option_map_or (λ condition. not (ready_holds condition shown)) condition false

or-nothing : (b : Bool) → b ≡ (b || false)
or-nothing true = refl
or-nothing false = refl

or-assoc : (a b c : Bool) → (a || (b || c)) ≡ ((a || b) || c)
or-assoc true b c = refl
or-assoc false b c = refl

interchange : (a b c d : Bool) → ((a || b) || (c || d)) ≡ ((a || c) || (b || d))
interchange true b c d = refl
interchange false true true d = refl
interchange false true false d = refl
interchange false false c d = refl

-- a condition fails where what it was made into does, or what is left of it
fails-apart : (condition : Option Condition) (value : Value) (shown : List ℕ)
    → fails condition value shown
    ≡ (ready_fails (option_and_then condition_ready condition) shown
    || fails (option_and_then condition_left condition) value shown)
fails-apart None value shown = refl
fails-apart (Some (NumberGreater bound)) value shown = refl
fails-apart (Some (NumberGreaterThanEq bound)) value shown = refl
fails-apart (Some (NumberLess bound)) value shown = refl
fails-apart (Some (NumberLessThanEq bound)) value shown = refl
fails-apart (Some (NumberEq other)) value shown = refl
fails-apart (Some (NumberNotEq other)) value shown = refl
fails-apart (Some (NumberBetween first last)) value shown = refl
fails-apart (Some (TextContains part)) value shown = or-nothing _
fails-apart (Some (TextNotContains part)) value shown = or-nothing _
fails-apart (Some (TextStartsWith start)) value shown = or-nothing _
fails-apart (Some (TextEndsWith end)) value shown = or-nothing _
fails-apart (Some (TextEq text)) value shown = refl
fails-apart (Some Blank) value shown = refl
fails-apart (Some NotBlank) value shown = refl

-- a row is hidden by a cell just where what was made ready hides it, or what is left
cell-apart : (criterion : Criterion) (ready : ReadyCriterion) (value : Value) (shown : List ℕ)
    → IsReady criterion ready → hides_shown criterion value shown
    ≡ (ready_hides ready shown || hides_shown (criterion_left criterion) value shown)
cell-apart criterion ready value shown is =
    let among = is_among shown criterion.hidden in
    let left = fails (option_and_then condition_left criterion.condition) value shown in
    ap (λ b. among || b) (fails-apart criterion.condition value shown)
    ∙ or-assoc among (ready_fails (option_and_then condition_ready criterion.condition) shown) left
    ∙ ap (λ condition. (among || ready_fails condition shown) || left) (sym is.condition)
    ∙ ap (λ b. (b || ready_fails ready.condition shown) || left) (sym (is.hidden shown))

-- where no cell is left, none is hidden
pub none_hides : (ready : List ReadyCriterion) (values : List Value) → (ready ≡ []) ⊎ (values ≡ [])
    → some_hides ready values ≡ false
none_hides [] values empty = refl
none_hides (one ∷ ready) [] empty = refl
none_hides (one ∷ ready) (value ∷ values) empty =
    ⊎_elim (λ none. absurd (cc)) (λ none. absurd (cc)) empty

-- a row is hidden just where what was made ready hides it, or what is left
pub hides-apart : (criteria : List Criterion) (ready : List ReadyCriterion) (values : List Value)
    → AllZip IsReady criteria ready
    → hides criteria values ≡ (some_hides ready values || hides (map criterion_left criteria) values)
hides-apart [] [] values are = refl
hides-apart [] (one ∷ ready) values are = absurd are
hides-apart (criterion ∷ criteria) [] values are = absurd are
hides-apart (criterion ∷ criteria) (one ∷ ready) [] are = refl
hides-apart (criterion ∷ criteria) (one ∷ ready) (value ∷ values) are =
    let shown = shown_text value in
    let left = hides_shown (criterion_left criterion) value shown in
    ap (λ b. b || hides criteria values) (cell-apart criterion one value shown are.0)
    ∙ ap (λ b. (ready_hides one shown || left) || b) (hides-apart criteria ready values are.1)
    ∙ interchange (ready_hides one shown) left (some_hides ready values)
    (hides (map criterion_left criteria) values)
