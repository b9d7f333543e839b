-- What an append that broke no rule is told as.
use Rattle.std.proofs.Common.{◌≡◌, ℕ, Bool, refl, sym, ap, subst, ◌∙◌, List}
use Rattle.std.specs.Prelude.{Option, Some, None, IsSomeAnd, IfSome, Result, Ok, Err, MatchResult, option_map, true, ⊤}
use Rattle.cell_value.specs.declared.cell.Block.{Block}
use Rattle.grid_range.specs.declared.area.Area.{Area}
use Rattle.world_model.specs.Book.{PlaceBook}
use Rattle.world_model.specs.BookChange.{BookChange}
use Rattle.world_model.specs.Sheet.{PlaceSheet}
use Rattle.world_model.specs.Sound.{place_sheet_with}
use Rattle.dimension_ops.specs.Rules.{IsUnlessNoMemory}
use Rattle.dimension_ops.specs.declared.rule.Limit.{Limit}
use Rattle.dimension_ops.specs.declared.rule.Rule.{Rule}
use Rattle.dimension_ops.specs.declared.rule.Rule.TheVariants.{PastLimit}
use Rattle.dimension_ops.specs.declared.rule.RuleOr.{RuleOr}
use Rattle.dimension_ops.specs.declared.rule.RuleOr.TheVariants as refusal
use Rattle.values_api.specs.Appends.{IsAppend, IsAppendUnless, IsAppended, answer_with, cell_area, limit_passed, lines_added, start_of, table_area}
use Rattle.values_api.specs.Blocks.{IsWrite}
use Rattle.values_api.specs.Denials.{IsWriteBy}
use Rattle.values_api.specs.Ranges.{area_text}
use Rattle.values_api.specs.declared.appending.Added.{Added}
use Rattle.values_api.specs.declared.table.Rectangle.{Rectangle}
use Rattle.values_api.specs.declared.writing.WrittenCells.{WrittenCells}
use Rattle.sheets_json.specs.declared.answer.Update.{Update as UpdateAnswer}
use Rattle.request_kinds.specs.Telling.{IsDoneTo}
use Rattle.request_kinds.specs.TellingLaws.{done_of}
use Rattle.values_api.specs.FoundLaws.{some_and}
use Rattle.batch_engine.specs.Values.{Appended, IsAppendOn, IsTextOf, update_of}

abbrev Done : Type 0
Done = Option Area × WrittenCells

abbrev as_done : Done → Result Done Rule
as_done done = Ok done

abbrev as_refused : Rule → Result Done Rule
as_refused rule = Err rule

done_same : (one other : Done) → as_done one ≡ as_done other → one ≡ other
done_same one other e = cc

done_not_refused : (done : Done) (rule : Rule) → as_done done ≡ as_refused rule → ⊥
done_not_refused done rule e = cc

-- ---- the sheet of what was appended

-- the table, if there is one, and what was written are of that sheet
abbrev AreOf : ℕ → Done → Type 0
AreOf sheet done = IfSome done.0 (λ (area : Area). area.sheet ≡ sheet) × (done.1.area.sheet ≡ sheet)

module _ (user : List ℕ) (sheet : ℕ) (added : Added) (start : ℕ × ℕ) (block : Block) (table : Option Rectangle)
    (changes : List BookChange) (before after : PlaceBook) (done : Done) where
  table_of : (found : Option Rectangle)
      → IfSome (option_map (table_area sheet) found) (λ (area : Area). area.sheet ≡ sheet)
  table_of None = tt
  table_of (Some one) = refl

  area_of : (own : PlaceSheet) (between : PlaceBook) (told : Result WrittenCells Rule)
      → IsWriteBy user true (cell_area sheet start) block own between after told → (written : WrittenCells) → told
      ≡ Ok written
      → written.area.sheet ≡ sheet
  area_of own between told write written same =
      let wrote : IsWrite true (cell_area sheet start) block own between after (Ok written) =
      subst (λ one. IsWrite true (cell_area sheet start) block own between after one)
      (done_of write.denied write.done written (sym same ∙ write.told_is)) write.is in
      ap (λ (area : Area). area.sheet) wrote.answered.1.area_is

  of_told : (told : Result WrittenCells Rule)
      → MatchResult told (λ written. as_done done ≡ Ok (answer_with sheet table written))
      (λ rule. as_done done ≡ Err rule)
      → ((written : WrittenCells) → told ≡ Ok written → written.area.sheet ≡ sheet) → AreOf sheet done
  of_told (Ok written) answered its =
      subst (AreOf sheet) (sym (done_same done (answer_with sheet table written) answered))
      (table_of table, its written refl)
  of_told (Err rule) answered its = absurd (done_not_refused done rule answered)

  unless_of : (limit : Option Limit)
      → IsAppendUnless limit (IsAppended user sheet added start block table changes before after (Ok done))
      changes (Ok done)
      → AreOf sheet done
  unless_of None is = of_told is.told is.answered (area_of is.own is.between is.told is.write)
  unless_of (Some limit) is = absurd (done_not_refused done (PastLimit limit) is.1)

-- ---- what is told

some_same : (one other : PlaceSheet) → Some one ≡ Some other → one ≡ other
some_same one other e = cc

text_at : (table : Option Area) (text : Option (List ℕ)) (id : ℕ) (sheets : List PlaceSheet) (own : PlaceSheet)
    → place_sheet_with id sheets ≡ Some own → IfSome table (λ (area : Area). area.sheet ≡ id)
    → IsTextOf table sheets text
    → text ≡ option_map (area_text own) table
text_at None text id sheets own found same is = is
text_at (Some area) text id sheets own found same is =
    let (sheet, there, says) = some_and (λ (sheet : PlaceSheet). text ≡ Some (area_text sheet area))
    (place_sheet_with area.sheet sheets) is in
    says ∙ ap (λ (sheet : PlaceSheet). Some (area_text sheet area))
    (some_same sheet own (sym there ∙ ap (λ n. place_sheet_with n sheets) same ∙ found))

abbrev as_appended : Option (List ℕ) → UpdateAnswer → List BookChange → Result (Appended × List BookChange) Rule
as_appended text update changes = Ok ((text, update), changes)

module _ (user : List ℕ) (insert : Bool) (block : Block) (area : Area) (before after : PlaceBook) where
  pub append_done : (table : Option Area) (written : WrittenCells) (text : Option (List ℕ)) (update : UpdateAnswer)
      → IsSomeAnd (place_sheet_with area.sheet before.sheets)
      (λ sheet. IsUnlessNoMemory (IsAppend user insert area block sheet before after) (Ok (table, written)))
      → IsTextOf table after.sheets text
      → IsSomeAnd (place_sheet_with written.area.sheet after.sheets) (λ sheet. update ≡ update_of after sheet written)
      → IsSomeAnd (place_sheet_with area.sheet before.sheets)
      (λ sheet. IsUnlessNoMemory (IsDoneTo (IsAppendOn user before insert block area sheet) before after)
      (Ok (text, update)))
  append_done table written text update appended texts told =
      let (sheet, is, appends) =
      some_and (λ (sheet : PlaceSheet). IsAppend user insert area block sheet before after (Ok (table, written)))
      (place_sheet_with area.sheet before.sheets) appended in
      let added = lines_added insert (start_of appends.table area) block sheet in
      let of =
      unless_of user area.sheet added (start_of appends.table area) block appends.table appends.changes before after
      (table, written) (limit_passed added sheet before.sheets) appends.appended in
      let (own, found, update_is) = some_and (λ (sheet : PlaceSheet). update ≡ update_of after sheet written)
      (place_sheet_with written.area.sheet after.sheets) told in
      let there : place_sheet_with area.sheet after.sheets ≡ Some own =
      ap (λ n. place_sheet_with n after.sheets) (sym of.1) ∙ found in
      let text_is = text_at table text area.sheet after.sheets own there of.0 texts in
      subst (λ one. IsSomeAnd one (λ (sheet : PlaceSheet). IsUnlessNoMemory
      (IsDoneTo (IsAppendOn user before insert block area sheet) before after) (Ok (text, update)))) (sym is) (
        appends.changes,
        record {
          after = after;
          appended = Ok (table, written);
          appends = appends;
          tells = (
            own,
            there,
            ap (λ one. as_appended one update appends.changes) text_is
                ∙ ap (λ one. as_appended (option_map (area_text own) table) one appends.changes) update_is,
          );
        },
        appends.made,
      )

  pub append_refused : (fault : RuleOr)
      → IsSomeAnd (place_sheet_with area.sheet before.sheets)
      (λ sheet. IsUnlessNoMemory (IsAppend user insert area block sheet before after) (Err fault))
      → IsSomeAnd (place_sheet_with area.sheet before.sheets)
      (λ sheet. IsUnlessNoMemory (IsDoneTo (IsAppendOn user before insert block area sheet) before after) (Err fault))
  append_refused (refusal.Rule broken) appended =
      let (sheet, is, appends) =
      some_and (λ (sheet : PlaceSheet). IsAppend user insert area block sheet before after (Err broken))
      (place_sheet_with area.sheet before.sheets) appended in
      subst (λ one. IsSomeAnd one (λ (sheet : PlaceSheet). IsUnlessNoMemory
      (IsDoneTo (IsAppendOn user before insert block area sheet) before after) (Err (refusal.Rule broken)))) (sym is)
      (record { after = after; appended = Err broken; appends = appends; tells = refl })
  append_refused refusal.NoMemory appended =
      let (sheet, is, nothing) =
      some_and (λ (sheet : PlaceSheet). ⊤) (place_sheet_with area.sheet before.sheets) appended in
      subst (λ one. IsSomeAnd one (λ (sheet : PlaceSheet). IsUnlessNoMemory
      (IsDoneTo (IsAppendOn user before insert block area sheet) before after) (Err refusal.NoMemory))) (sym is) tt
