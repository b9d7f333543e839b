-- A spreadsheet that is made: what is told of it, and that only one can be.
use Rattle.std.proofs.Common.{◌≡◌, ℕ, refl, sym, ap, subst, ◌∙◌, List, [], ◌∷◌, ◌++◌, length, get_or}
use Rattle.std.specs.Prelude.{Option, Some, None, Result, Ok, Err}
use Rattle.std.specs.Option.{option_map_or}
use Rattle.std.proofs.lemmas.List.{get_or_push}
use Rattle.cell_value.specs.declared.cell.SheetProperties.{SheetProperties}
use Rattle.world_model.specs.Book.{PlaceBook}
use Rattle.world_model.specs.Making.{Placed, additions, bare_book, bare_names, made_by_name, with_all_placed, with_named_book}
use Rattle.world_model.specs.Sheet.{PlaceSheet}
use Rattle.world_model.specs.World.{WorldStandsFor}
use Rattle.dimension_ops.specs.Broken.{first_broken, judged_by}
use Rattle.dimension_ops.specs.Creating.{ArePlaced, IsBookAdded, asked_sheets, book_id, created_broken, sheets_with}
use Rattle.dimension_ops.specs.SheetRequests.{NewSheetsOnce}
use Rattle.dimension_ops.specs.Rules.{IsUnlessNoMemory}
use Rattle.dimension_ops.specs.declared.rule.Rule.{Rule}
use Rattle.dimension_ops.specs.declared.rule.RuleOr.{RuleOr}
use Rattle.dimension_ops.specs.declared.rule.RuleOr.TheVariants as refusal
use Rattle.json_shapes.specs.Reading.{Reading}
use Rattle.sheets_json.specs.declared.answer.Answer.TheVariants as answer
use Rattle.sheets_json.specs.declared.call.NewSpreadsheet.{NewSpreadsheet}
use Rattle.sheets_json.specs.declared.spreadsheet.Spreadsheet.{Spreadsheet}
use Rattle.batch_engine.specs.Calls.{IsMaking}
use Rattle.batch_engine.specs.Create.{IsCreateOf, IsMadeFor, book_made, makes_book, title_or_untitled, unless_broken}
use Rattle.batch_engine.specs.Laws.{IsOnce}
use Rattle.batch_engine.specs.Looks.{spreadsheet_alone}

-- ---- what is told of what breaks no rule, and of what breaks one

abbrev right : {A : Type 0} → A → Result A Rule
right value = Ok value

abbrev wrong : (A : Type 0) → Rule → Result A Rule
wrong A broken = Err broken

module _ {A : Type 0} where
  right_same : (one other : A) → right one ≡ right other → one ≡ other
  right_same one other e = cc

  wrong_same : (one other : Rule) → wrong A one ≡ wrong A other → one ≡ other
  wrong_same one other e = cc

  right_not_wrong : (value : A) (broken : Rule) → right value ≡ wrong A broken → ⊥
  right_not_wrong value broken e = cc

  told_same : (found : Option Rule) (one other : A) → Ok one ≡ option_map_or Err found (Ok other) → one ≡ other
  told_same None one other is = right_same one other is
  told_same (Some broken) one other is = absurd (right_not_wrong one broken is)

module _ {A B : Type 0} where
  told_right : (found : Option Rule) (one other : A) (answer : B) → Ok one ≡ option_map_or Err found (Ok other)
      → Ok answer ≡ option_map_or Err found (Ok answer)
  told_right None one other answer is = refl
  told_right (Some broken) one other answer is = absurd (right_not_wrong one broken is)

  told_wrong : (found : Option Rule) (broken : Rule) (other : A) (answer : B)
      → Err broken ≡ option_map_or Err found (Ok other) → Err broken ≡ option_map_or Err found (Ok answer)
  told_wrong None broken other answer is = absurd (right_not_wrong other broken (sym is))
  told_wrong (Some first) broken other answer is = ap (wrong B) (wrong_same {A = A} broken first is)

-- ---- a spreadsheet that was added, as it is told

module _ (owner : List ℕ) (asked : NewSpreadsheet) (before after : List PlaceBook) where
  abbrev title : List ℕ
  title = title_or_untitled asked

  abbrev sheets : List SheetProperties
  sheets = asked_sheets asked.sheets

  making_told : (id : List ℕ) (shown : Spreadsheet) → IsBookAdded owner title sheets before after (Ok id)
      → ((other : PlaceBook) → shown ≡ spreadsheet_alone owner (get_or after (length before) other))
      → IsMaking (IsMadeFor owner asked before) before (Ok (answer.Create shown, after))
  making_told id shown is shows =
      let others = length before in
      let found = first_broken (created_broken others sheets is.placed) in
      let book = book_made owner asked others is.placed in
      let named : id ≡ book_id others = told_same found id (book_id others) is.judged in
      let added : after ≡ before ++ book ∷ [] =
      is.added ∙ ap (λ one. before ++ with_all_placed (bare_book one title owner) is.placed ∷ []) named in
      let told : shown ≡ spreadsheet_alone owner book =
      shows book ∙ ap (λ books. spreadsheet_alone owner (get_or books others book)) added
      ∙ ap (spreadsheet_alone owner) (get_or_push before book book others refl) in (
        makes_book owner asked others is.placed,
        record {
          placed = is.placed;
          are = is.are;
          told_is =
              ap (λ one. Ok (answer.Create one)) told
              ∙ told_right found id (book_id others) (answer.Create (spreadsheet_alone owner book)) is.judged;
          effect_is = refl;
        },
        record {
          names = λ world stands.
              subst (λ one. WorldStandsFor after
              (with_named_book (made_by_name (bare_names one title owner) (additions is.placed) world.next) world))
              named (is.names world stands);
        },
      )

  making_refused : (broken : Rule) → IsBookAdded owner title sheets before after (Err broken)
      → IsMaking (IsMadeFor owner asked before) before (Err broken)
  making_refused broken is =
      let others = length before in record {
        placed = is.placed;
        are = is.are;
        told_is =
            told_wrong (first_broken (created_broken others sheets is.placed)) broken (book_id others)
            (answer.Create (spreadsheet_alone owner (book_made owner asked others is.placed))) is.judged;
        effect_is = refl;
      }

module _ (owner title : List ℕ) (asked : NewSpreadsheet) (before copied after : List PlaceBook) (same : copied ≡ before)
    (titled : title ≡ title_or_untitled asked) where
  on_own : (told : Result (List ℕ) Rule) → IsBookAdded owner title (asked_sheets asked.sheets) copied after told
      → IsBookAdded owner (title_or_untitled asked) (asked_sheets asked.sheets) before after told
  on_own told is =
      subst (λ books. IsBookAdded owner (title_or_untitled asked) (asked_sheets asked.sheets) books after told) same
      (subst (λ text. IsBookAdded owner text (asked_sheets asked.sheets) copied after told) titled is)

  pub made_told : (id : List ℕ) (shown : Spreadsheet) (at : ℕ) → at ≡ length before
      → IsBookAdded owner title (asked_sheets asked.sheets) copied after (Ok id)
      → ((other : PlaceBook) → shown ≡ spreadsheet_alone owner (get_or after at other))
      → IsMaking (IsMadeFor owner asked before) before (Ok (answer.Create shown, after))
  made_told id shown at at_is is shows =
      making_told owner asked before after id shown (on_own (Ok id) is)
      (subst (λ place. (other : PlaceBook) → shown ≡ spreadsheet_alone owner (get_or after place other)) at_is shows)

  pub made_refused : (fault : RuleOr)
      → IsUnlessNoMemory (IsBookAdded owner title (asked_sheets asked.sheets) copied after) (Err fault)
      → IsUnlessNoMemory (IsMaking (IsMadeFor owner asked before) before) (Err fault)
  made_refused (refusal.Rule broken) is = making_refused owner asked before after broken (on_own (Err broken) is)
  made_refused refusal.NoMemory is = tt

-- ---- one spreadsheet can be made

module _ (news : NewSheetsOnce) where
  placed_once : (asked : List SheetProperties) (so_far : List PlaceSheet) (one other : List Placed)
      → ArePlaced asked so_far one → ArePlaced asked so_far other → one ≡ other
  placed_once [] so_far [] [] is is' = refl
  placed_once [] so_far [] (placed ∷ rest) is is' = absurd is'
  placed_once [] so_far (placed ∷ rest) other is is' = absurd is
  placed_once (asked ∷ others) so_far [] other is is' = absurd is
  placed_once (asked ∷ others) so_far (placed ∷ rest) [] is is' = absurd is'
  placed_once (asked ∷ others) so_far ((at, new) ∷ rest) ((at', new') ∷ rest') is is' =
      let one : Placed = (at, new) in
      let other : Placed = (at', new') in
      let same : one ≡ other =
      ap (λ place. (place, new)) (is.0.0 ∙ sym is'.0.0)
      ∙ ap (λ sheet. (at', sheet)) (news.once asked so_far new new' is.0.1 is'.0.1) in
      ap (λ first. first ∷ rest) same
      ∙ ap (λ behind. other ∷ behind) (placed_once others (sheets_with so_far other) rest rest'
      (subst (λ first. ArePlaced others (sheets_with so_far first) rest) same is.1) is'.1)

  made_once : (owner : List ℕ) (asked : NewSpreadsheet) (books : List PlaceBook) → IsOnce (IsMadeFor owner asked books)
  made_once owner asked books told told' effect effect' is is' =
      let others = length books in
      let same = placed_once (asked_sheets asked.sheets) [] is.placed is'.placed is.are is'.are in
      let same_told : told ≡ told' =
      is.told_is
      ∙ ap (λ placed. judged_by (created_broken others (asked_sheets asked.sheets) placed)
      (answer.Create (spreadsheet_alone owner (book_made owner asked others placed)))) same
      ∙ sym is'.told_is in (
        same_told,
        is.effect_is
            ∙ ap (λ placed. unless_broken told (makes_book owner asked others placed)) same
            ∙ ap (λ one. unless_broken one (makes_book owner asked others is'.placed)) same_told
            ∙ sym is'.effect_is,
      )

  pub create_once : (owner : List ℕ) (spreadsheet : Reading NewSpreadsheet) (books : List PlaceBook)
      → IsOnce (IsCreateOf owner spreadsheet books)
  create_once owner (Ok asked) books = made_once owner asked books
  create_once owner (Err shape) books = λ told told' effect effect' is is'. (is.0 ∙ sym is'.0, is.1 ∙ sym is'.1)
