-- What a spreadsheet becomes by places when a named range is added, changed or deleted, or words of its formulas become
-- another one, which is what a program does: addNamedRange, updateNamedRange and deleteNamedRange of the Google Sheets
-- API v4.
use Rattle.std.specs.Prelude.{◌≡◌, ◌⊎◌, ℕ, List, [], ◌∷◌, ◌++◌, map}
use Rattle.std.specs.List.{AllZip}
use Rattle.std.specs.Option.{option_map}
use Rattle.cell_store.specs.Table.{item_at}
use Rattle.named_ranges.specs.Listed.{with_changed, without_id}
use Rattle.named_ranges.specs.declared.range.NamedRange.{NamedRange}
use Rattle.ref_rewrite.specs.Renaming.{piece_renamed}
use Rattle.ref_rewrite.specs.declared.cell_content.Content.{Content}
use Rattle.ref_rewrite.specs.declared.cell_content.Content.TheVariants as content
use Rattle.world_model.specs.Book.{PlaceBook}
use Rattle.world_model.specs.Sheet.{PlaceSheet}

abbrev pub with_place_ranges : List NamedRange → PlaceBook → PlaceBook
with_place_ranges ranges book = record book { ranges = ranges }

-- ---- a named range is added, changed or deleted

-- a new one stands last
abbrev pub place_range_added : NamedRange → PlaceBook → PlaceBook
place_range_added range book = with_place_ranges (book.ranges ++ range ∷ []) book

-- one stands in the place of the one with its id
abbrev pub place_range_changed : NamedRange → PlaceBook → PlaceBook
place_range_changed range book = with_place_ranges (with_changed range.id (λ other. range) book.ranges) book

abbrev pub place_range_deleted : List ℕ → PlaceBook → PlaceBook
place_range_deleted id book = with_place_ranges (without_id id book.ranges) book

-- ---- words of formulas become another one

-- each word of a formula that is the old one is the new one, and all else stays
abbrev pub content_renamed : List ℕ → List ℕ → Content → Content
content_renamed old new (content.Number number) = content.Number number
content_renamed old new (content.Text text) = content.Text text
content_renamed old new (content.Truth truth) = content.Truth truth
content_renamed old new (content.Formula formula) =
    content.Formula (record formula { pieces = map (piece_renamed old new) formula.pieces })

-- each place holds what it held, its words renamed
pub record WordsRenamedIn (old new : List ℕ) (before after : PlaceSheet) : Type 0 where
  pub id : after.id ≡ before.id
  pub title : after.title ≡ before.title
  pub hidden : after.hidden ≡ before.hidden
  pub rows : after.table.rows ≡ before.table.rows
  pub cols : after.table.cols ≡ before.table.cols
  pub items : (row col : ℕ) → item_at after.table row col
      ≡ option_map (content_renamed old new) (item_at before.table row col)
  pub merges : after.merges ≡ before.merges
  pub filter : after.filter ≡ before.filter

pub record PlaceWordsRenamed (old new : List ℕ) (before after : PlaceBook) : Type 0 where
  pub id : after.id ≡ before.id
  pub title : after.title ≡ before.title
  pub owner : after.owner ≡ before.owner
  pub sheets : AllZip (WordsRenamedIn old new) before.sheets after.sheets
  pub ranges : after.ranges ≡ before.ranges
  pub protections : after.protections ≡ before.protections
  pub metadata : after.metadata ≡ before.metadata

-- the words of some sheets are renamed, and those of others aren't yet
pub record SomeWordsRenamed (old new : List ℕ) (before after : PlaceBook) : Type 0 where
  pub id : after.id ≡ before.id
  pub title : after.title ≡ before.title
  pub owner : after.owner ≡ before.owner
  pub sheets : AllZip (λ one other. (other ≡ one) ⊎ WordsRenamedIn old new one other) before.sheets after.sheets
  pub ranges : after.ranges ≡ before.ranges
  pub protections : after.protections ≡ before.protections
  pub metadata : after.metadata ≡ before.metadata
