-- The formulas of a table in which a word stands that becomes another one (UpdateNamedRangeRequest of the Google Sheets
-- API v4 reference).
use Rattle.std.specs.Prelude.{ℕ, Bool, false, List}
use Rattle.std.specs.List.{list_any}
use Rattle.std.specs.Option.{option_map_or}
use Rattle.cell_store.specs.Table.{Table, item_at, with_item}
use Rattle.ref_rewrite.specs.Renaming.{is_word}
use Rattle.ref_rewrite.specs.declared.cell_content.Content.{Content}
use Rattle.ref_rewrite.specs.declared.cell_content.Content.TheVariants as content
use Rattle.world_model.specs.RangeChange.{content_renamed}
use Rattle.dimension_ops.specs.References.{ArePlacesOfSuch, passes_at}

-- the content is a formula with that word, whatever the case of its ASCII letters
abbrev pub has_word : List ℕ → Content → Bool
has_word word (content.Formula formula) = list_any (is_word word) formula.pieces
has_word word (content.Number number) = false
has_word word (content.Text text) = false
has_word word (content.Truth truth) = false

-- so is what stands at the place
abbrev pub has_word_at : List ℕ → Table Content → ℕ × ℕ → Bool
has_word_at word = passes_at (has_word word)

-- these are the places of the formulas with the word, each once, by rows
abbrev pub AreNaming : List ℕ → Table Content → List (ℕ × ℕ) → Type 0
AreNaming word = ArePlacesOfSuch (has_word word)

-- what stands at the place has its words renamed there
abbrev pub renamed_at : List ℕ → List ℕ → Table Content → ℕ × ℕ → Table Content
renamed_at old new table place =
    option_map_or (λ item. with_item table place.0 place.1 (content_renamed old new item))
    (item_at table place.0 place.1) table
