-- Rows that are written make one thing of the cells, and have one answer.
use Rattle.std.proofs.Common.{◌≡◌, ℕ, Bool, true, sym, subst, ◌∙◌, List, ◌++◌}
use Rattle.std.specs.Prelude.{Some, Result, Ok, Err, MatchResult}
use Rattle.cell_value.specs.declared.cell.Block.{Block}
use Rattle.grid_range.specs.declared.area.Area.{Area}
use Rattle.world_model.specs.Book.{PlaceBook}
use Rattle.world_model.specs.BookChange.{AreChanges, BookChange}
use Rattle.world_model.specs.ChangingLaws.{ChangesApart, ChangesInTurn}
use Rattle.world_model.specs.Sheet.{PlaceSheet}
use Rattle.world_model.specs.Sound.{IsSound}
use Rattle.world_model.specs.Updating.{Updates}
use Rattle.dimension_ops.specs.declared.rule.Rule.{Rule}
use Rattle.values_api.specs.Blocks.{IsWrite, contents_of}
use Rattle.values_api.specs.Denials.{IsUnlessDenied, WriteCells}
use Rattle.values_api.specs.Laws.{WritesOnce}
use Rattle.values_api.specs.declared.writing.WrittenCells.{WrittenCells}
use Rattle.sheets_json.specs.declared.spreadsheet.Reply.{Reply}
use Rattle.sheets_json.specs.declared.spreadsheet.Reply.TheVariants as reply
use Rattle.request_kinds.specs.AppendCells.{AreRowsWrittenBy}
use Rattle.request_kinds.specs.Telling.{cells_updated}
use Rattle.request_kinds.specs.TellingLaws.{unless_once}
use Rattle.request_kinds.specs.Rows.{AreRowsPut, AreRowsWritten, OnArea}

some_same : {A : Type 0} (one other : A) → Some one ≡ Some other → one ≡ other
some_same one other e = cc

-- what is done on an area
pub on_area_once : {A : Type 0} (IsDone : Area → Result A Rule → Type 0)
    → ((area : Area) (told told' : Result A Rule) → IsDone area told → IsDone area told' → told ≡ told')
    → (found : Result Area Rule) (told told' : Result A Rule) → OnArea found IsDone told → OnArea found IsDone told'
    → told ≡ told'
on_area_once IsDone once (Ok area) told told' is is' = once area told told' is is'
on_area_once IsDone once (Err broken) told told' is is' = is ∙ sym is'

module _ (writes_once : WritesOnce) (apart : ChangesApart) (turns : ChangesInTurn) (first : List BookChange)
    (rows : Block)
    (one_cell : Bool) (area : Area) where
  abbrev Tells : Result (Reply × List BookChange) Rule → Updates → Result WrittenCells Rule → Type 0
  Tells told updates wrote =
      MatchResult wrote (λ counts. told ≡ Ok (reply.Empty, first ++ cells_updated area.sheet updates))
      (λ broken. told ≡ Err broken)

  tells_once : (updates : Updates) (wrote : Result WrittenCells Rule)
      (told told' : Result (Reply × List BookChange) Rule)
      → Tells told updates wrote → Tells told' updates wrote → told ≡ told'
  tells_once updates (Ok counts) told told' is is' = is ∙ sym is'
  tells_once updates (Err broken) told told' is is' = is ∙ sym is'

  -- a write of the rows on the spreadsheet that the first changes leave, and what is told of it
  abbrev ToldOf : Result (Reply × List BookChange) Rule → PlaceBook → PlaceSheet → Type 0
  ToldOf told between sheet =
      (after : PlaceBook) × (wrote : Result WrittenCells Rule)
      × (writes : IsWrite one_cell area rows sheet between after wrote) × Tells told (contents_of writes.entries) wrote

  told_once : (between : PlaceBook) (sheet : PlaceSheet) (told told' : Result (Reply × List BookChange) Rule)
      → IsSound between → ToldOf told between sheet → ToldOf told' between sheet → told ≡ told'
  told_once between sheet told told' sound (after, wrote, writes, tells) (after', wrote', writes', tells') =
      let (same, same_wrote) =
      writes_once.once one_cell area rows sheet between after after' wrote wrote' sound writes writes' in
      tells_once (contents_of writes'.entries) wrote' told told'
      (subst (Tells told (contents_of writes'.entries)) same_wrote
      (subst (λ updates. Tells told updates wrote) same tells))
      tells'

  -- on what the first changes leave
  put_once : (between : PlaceBook) → IsSound between → (told told' : Result (Reply × List BookChange) Rule)
      → AreRowsPut first rows one_cell between area told → AreRowsPut first rows one_cell between area told'
      → told ≡ told'
  put_once between sound told told' one other =
      told_once between other.sheet told told' sound
      (subst (ToldOf told between) (some_same one.sheet other.sheet (sym one.there ∙ other.there))
      (one.after, one.wrote, one.writes, one.tells))
      (other.after, other.wrote, other.writes, other.tells)

  module _ (book : PlaceBook) (sound : IsSound book) where
    between_sound : (between : PlaceBook) → AreChanges first book between → IsSound between
    between_sound between changed = turns.sound first book between sound changed

    pub rows_once : (told told' : Result (Reply × List BookChange) Rule)
        → AreRowsWritten first rows one_cell book area told → AreRowsWritten first rows one_cell book area told'
        → told ≡ told'
    rows_once told told' one other =
        let same = apart.same first book one.between other.between sound one.changed other.changed in
        put_once other.between (between_sound other.between other.changed) told told'
        (subst (λ between. AreRowsPut first rows one_cell between area told) same one.put) other.put

-- a user's rows
pub rows_by_once : WritesOnce → ChangesApart → ChangesInTurn → (user : List ℕ) (first : List BookChange) (rows : Block)
    (area : Area) (book : PlaceBook) → IsSound book → (told told' : Result (Reply × List BookChange) Rule)
    → AreRowsWrittenBy user first rows book area told → AreRowsWrittenBy user first rows book area told'
    → told ≡ told'
rows_by_once writes apart turns user first rows area book sound told told' one other =
    let same = apart.same first book one.between other.between sound one.changed other.changed in
    unless_once user other.between (WriteCells other.between.sheets true area rows)
    (AreRowsPut first rows true other.between area)
    (put_once writes apart turns first rows true area other.between
    (turns.sound first book other.between sound other.changed))
    told told'
    (subst (λ (between : PlaceBook). IsUnlessDenied user between (WriteCells between.sheets true area rows)
    (AreRowsPut first rows true between area) told) same one.put) other.put
