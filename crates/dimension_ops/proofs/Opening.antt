-- The spreadsheet of the beginning is sound.
use Rattle.std.proofs.Common.{◌≡◌, ℕ, refl, sym, List, [], ◌∷◌, arith, Option, None, Some}
use Rattle.std.specs.Prelude.{IfSome}
use Rattle.std.specs.List.Sorted.{IsStrictlySortedBy}
use Rattle.std.specs.Option.{IsSome}
use Rattle.std.specs.FinMap as finite
use Rattle.std.proofs.lemmas.Bool.{false≢true}
use Rattle.std.proofs.lemmas.List.Elements.{All-nil, All-push}
use Rattle.grid_range.specs.Area.{by_rows}
use Rattle.cell_store.specs.Table.{item_at}
use Rattle.merge_ranges.specs.Merges.{IsMerge}
use Rattle.ref_rewrite.specs.declared.cell_content.Content.{Content}
use Rattle.named_ranges.specs.declared.range.NamedRange.{NamedRange}
use Rattle.world_model.specs.Sheet.{PlaceSheet}
use Rattle.world_model.specs.Sound.{AreMergesOf, IsSound, IsItemWithin, IsOnSheet, IsProtectionWithin, IsSheetSound, IsContentWithin}
use Rattle.dimension_ops.specs.World.{opening_sheet}

nothing_there : (row col : ℕ) → item_at opening_sheet.table row col ≡ None
nothing_there row col = finite.get-empty by_rows (row, col)

no_some : (o : Option Content) → o ≡ None → IsSome o → ⊥
no_some None is some = absurd (false≢true some)
no_some (Some item) is some = none_some item (sym is)
  where
    none_some : (item : Content) → None ≡ Some item → ⊥
    none_some item h = cc

holds_if_none : (o : Option Content) (P : Content → Type 0) → o ≡ None → IfSome o P
holds_if_none None P is = tt
holds_if_none (Some item) P is = absurd (none_some item (sym is))
  where
    none_some : (item : Content) → None ≡ Some item → ⊥
    none_some item h = cc

-- it has no merges
no_merges : AreMergesOf opening_sheet []
unfolding IsStrictlySortedBy
no_merges = (
  record {
    each = All-nil IsMerge;
    apart = λ i j d below there. absurd (let no : ⊥ = omega (arith, below, there) in no);
    in_order = tt;
  },
  λ k d there. absurd (let no : ⊥ = omega (arith, there) in no),
)

sheet_sound : (sheets : List PlaceSheet) → IsSheetSound sheets opening_sheet
sheet_sound sheets = record {
  titled = omega arith;
  rows = (omega arith, omega arith);
  cols = (omega arith, omega arith);
  inside = λ row col some. absurd (no_some (item_at opening_sheet.table row col) (nothing_there row col) some);
  within =
      λ row col. holds_if_none (item_at opening_sheet.table row col) (IsContentWithin sheets) (nothing_there row col);
  merges = no_merges;
  filter = tt;
}

pub opening_sound : (id title owner : List ℕ)
    → IsSound (record {
      id = id;
      title = title;
      owner = owner;
      sheets = opening_sheet ∷ [];
      ranges = [];
      protections = [];
      metadata = [];
    })
opening_sound id title owner = record {
  distinct = λ i j d below there. absurd (let no : ⊥ = omega (arith, below, there) in no);
  titles = λ i j d below there. absurd (let no : ⊥ = omega (arith, below, there) in no);
  visible = refl;
  sheets = All-push (IsSheetSound (opening_sheet ∷ [])) [] opening_sheet (All-nil (IsSheetSound (opening_sheet ∷ [])))
      (sheet_sound (opening_sheet ∷ []));
  few_sheets = omega arith;
  few_places = omega arith;
  ranges = All-nil (λ (range : NamedRange). IsOnSheet (opening_sheet ∷ []) range.area);
  protections = All-nil (IsProtectionWithin (opening_sheet ∷ []));
  metadata = All-nil (IsItemWithin (opening_sheet ∷ []));
}
