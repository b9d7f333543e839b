-- Lines of calls that are put one behind the other.
use Rattle.std.proofs.Common.{◌≡◌, ℕ, zero, suc, ◌+◌, ◌<◌, Bool, true, false, List, [], ◌∷◌, ◌++◌, length, map, take, get_or}
use Rattle.std.proofs.Common.{refl, sym, ap, subst, ◌∙◌, arith, append_assoc, if◌then◌else◌, Bor, Option, Some, None}
use Rattle.std.specs.List.{AllZip, concat}
use Rattle.std.specs.Option.{IsSome, option_copied}
use Rattle.std.specs.Str.{bytes_eq}
use Rattle.std.proofs.lemmas.Grind.{flat_map-append}
use Rattle.std.proofs.lemmas.List.{append-nil, get_or-map, map-append, take_more}
use Rattle.std.proofs.lemmas.List.Folds.{concat-append}
use Rattle.std.proofs.lemmas.Slice.Eq.{bytes_eq-Decides}
use Rattle.world_model.specs.Book.{PlaceBook}
use Rattle.world_model.specs.Laws.{IdsFind}
use Rattle.world_model.specs.Sheet.{PlaceSheet}
use Rattle.world_model.specs.Sound.{IsSound, place_sheet_with}
use Rattle.dimension_ops.specs.World.{book_with}
use Rattle.sheets_json.specs.declared.call.Call.{Call}
use Rattle.batch_engine.specs.declared.calls.Caller.{Caller}
use Rattle.sheet_engine.specs.Dump.{AreLines, Grows, IsLine, calls_on, dump_calls, look_at, owner_of, read_of}

-- ---- places

-- a spreadsheet that is there is found by its id
pub found_there : (books : List PlaceBook) (at : ℕ) (d : PlaceBook) → at < length books
    → IsSome (book_with (get_or books at d).id books)
found_there [] at d there = absurd (omega (arith, there))
found_there (book ∷ books) zero d there = rw ((bytes_eq-Decides book.id book.id).1 refl) refl
found_there (book ∷ books) (suc at) d there =
    first_or (bytes_eq book.id (get_or books at d).id) (found_there books at d (omega (arith, there)))
  where
    first_or : (first : Bool) → IsSome (book_with (get_or books at d).id books)
        → IsSome (if first then Some book else book_with (get_or books at d).id books)
    first_or true found = refl
    first_or false found = found

-- so is a sheet
pub sheet_there : (book : PlaceBook) → IdsFind → IsSound book → (at : ℕ) → at < length book.sheets
    → (found : Option (Bor PlaceSheet))
    → option_copied found ≡ place_sheet_with (get_or (map (λ sheet. sheet.id) book.sheets) at 0) book.sheets
    → IsSome found
sheet_there book law sound at there found is =
    let d = some_sheet book.sheets at there in
    is_there found (get_or book.sheets at d)
    (is ∙ ap (λ id. place_sheet_with id book.sheets)
    (get_or-map (λ (sheet : PlaceSheet). sheet.id) book.sheets at d 0 there)
    ∙ law.finds book sound at d there)
  where
    some_sheet : (sheets : List PlaceSheet) (at : ℕ) → at < length sheets → PlaceSheet
    some_sheet [] at there = absurd (omega (arith, there))
    some_sheet (sheet ∷ sheets) at there = sheet

    none_is_some : {A : Type 0} (x : A) → None ≡ Some x → ⊥
    none_is_some x e = cc

    is_there : {A : Type 0} (found : Option (Bor A)) (x : A) → option_copied found ≡ Some x → IsSome found
    is_there None x e = absurd (none_is_some x e)
    is_there (Some lent) x e = refl

-- ---- lines

-- lines behind lines
joined : {A B : Type 0} (R : A → B → Type 0) (calls others : List A) (lines more : List B) → AllZip R calls lines
    → AllZip R others more → AllZip R (calls ++ others) (lines ++ more)
joined R [] others [] more each rest = rest
joined R [] others (line ∷ lines) more each rest = absurd each
joined R (call ∷ calls) others [] more each rest = absurd each
joined R (call ∷ calls) others (line ∷ lines) more each rest = (each.0, joined R calls others lines more each.1 rest)

module _ (books : List PlaceBook) where
  pub no_line : (text : List ℕ) → Grows books [] text text
  no_line text = record {
    more = [];
    are_lines = record { lines = []; each = tt; text_is = refl };
    after_is = sym (append-nil text);
  }

  pub one_line : (made : Caller × Call) (line before after : List ℕ) → IsLine books made line → after ≡ before ++ line
      → Grows books (made ∷ []) before after
  one_line made line before after is more = record {
    more = line;
    are_lines = record { lines = line ∷ []; each = (is, tt); text_is = sym (append-nil line) };
    after_is = more;
  }

  pub more_lines : (calls others : List (Caller × Call)) (before between after : List ℕ)
      → Grows books calls before between → Grows books others between after → Grows books (calls ++ others) before after
  more_lines calls others before between after is more = record {
    more = is.more ++ more.more;
    are_lines = record {
      lines = is.are_lines.lines ++ more.are_lines.lines;
      each = joined (IsLine books) calls others is.are_lines.lines more.are_lines.lines is.are_lines.each
          more.are_lines.each;
      text_is =
          ap (λ text. text ++ more.more) is.are_lines.text_is
          ∙ ap (λ text. concat is.are_lines.lines ++ text) more.are_lines.text_is
          ∙ sym (concat-append is.are_lines.lines more.are_lines.lines);
    };
    after_is = more.after_is ∙ ap (λ text. text ++ more.more) is.after_is ∙ append_assoc before is.more more.more;
  }

  -- one sheet more
  pub next_sheet : (book : PlaceBook) (sheets : List PlaceSheet) (at : ℕ) (d : PlaceSheet) (start before after : List ℕ)
      (line : List ℕ) → at < length sheets → Grows books (calls_on book (take at sheets)) start before
      → IsLine books (owner_of book, read_of book (get_or sheets at d)) line → after ≡ before ++ line
      → Grows books (calls_on book (take (at + 1) sheets)) start after
  next_sheet book sheets at d start before after line there is next more =
      let by_owner : Call → Caller × Call = λ call. (owner_of book, call) in
      let last = get_or sheets at d in
      let reads : map (read_of book) (take (at + 1) sheets) ≡ map (read_of book) (take at sheets)
      ++ read_of book last ∷ [] =
      ap (map (read_of book)) (take_more sheets at d there) ∙ map-append (read_of book) (take at sheets) (last ∷ []) in
      let same : calls_on book (take (at + 1) sheets) ≡ calls_on book (take at sheets)
      ++ by_owner (read_of book last) ∷ [] =
      ap (λ calls. by_owner (look_at book) ∷ map by_owner calls) reads
      ∙ ap (λ calls. by_owner (look_at book) ∷ calls)
      (map-append by_owner (map (read_of book) (take at sheets)) (read_of book last ∷ [])) in
      subst (λ calls. Grows books calls start after) (sym same)
      (more_lines (calls_on book (take at sheets)) (by_owner (read_of book last) ∷ []) start before after is
      (one_line (by_owner (read_of book last)) line before after next more))

  -- one spreadsheet more
  pub next_book : (some : List PlaceBook) (at : ℕ) (d : PlaceBook) (before after : List ℕ) → at < length some
      → Grows books (dump_calls (take at some)) [] before
      → Grows books (calls_on (get_or some at d) (get_or some at d).sheets) before after
      → Grows books (dump_calls (take (at + 1) some)) [] after
  next_book some at d before after there is next =
      let calls_of : PlaceBook → List (Caller × Call) = λ book. calls_on book book.sheets in
      let last = get_or some at d in
      let same : dump_calls (take (at + 1) some) ≡ dump_calls (take at some) ++ calls_of last =
      ap dump_calls (take_more some at d there) ∙ flat_map-append calls_of (take at some) (last ∷ [])
      ∙ ap (λ calls. dump_calls (take at some) ++ calls) (append-nil (calls_of last)) in
      subst (λ calls. Grows books calls [] after) (sym same)
      (more_lines (dump_calls (take at some)) (calls_of last) [] before after is next)

  -- from an empty text on
  pub all_lines : (calls : List (Caller × Call)) (text : List ℕ) → Grows books calls [] text → AreLines books calls text
  all_lines calls text is = record {
    lines = is.are_lines.lines;
    each = is.are_lines.each;
    text_is = is.after_is ∙ is.are_lines.text_is;
  }
