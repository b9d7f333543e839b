-- Values that are entered into cells, one after another.
use Rattle.std.proofs.Common.{◌≡◌, ℕ, refl, sym, subst, ap, ◌∙◌, cond, Bool, true, false, inl, inr, List}
use Rattle.std.specs.Prelude.{Option, Some, None, ◌==◌, ◌&&◌, ◌⊎◌}
use Rattle.std.proofs.Math.Path.{fun_ext}
use Rattle.cell_value.specs.declared.entered.Input.{Input}
use Rattle.cell_value.specs.declared.entered.Input.TheVariants as input
use Rattle.formula_reader.specs.Laws.{IsReadOnce}
use Rattle.formula_reader.specs.Sheets.{Sheets}
use Rattle.formula_reader.specs.declared.fault.FormulaFault.{FormulaFault}
use Rattle.ref_rewrite.specs.declared.cell_content.Content.{Content}
use Rattle.ref_rewrite.specs.declared.cell_content.Content.TheVariants as content
use Rattle.world_model.specs.Book.{PlaceBook}
use Rattle.world_model.specs.Laws.{UpdatesAreWrites}
use Rattle.world_model.specs.Updating.{BookUpdated, with_update}
use Rattle.world_model.specs.Writing.{book_put}
use Rattle.values_api.specs.Blocks.{Entry, IsEntry, IsEntryOf, AreEntries, IsFormulaEntry, IsFirstPassed, contents_of}
use Rattle.values_api.specs.Given.{first_of}
use Rattle.values_api.proofs.FirstPassed.{first_after}
use Rattle.values_api.proofs.Listed.{with_one}

abbrev entry_as : Option Content → Option FormulaFault → Entry
entry_as content limit = record { content = content; limit = limit }

module _ (sheets : Sheets) (here : ℕ) where
  -- the values so far are entered, and this is the first limit that one of their formulas passes
  pub record AreEntered (values : ℕ → ℕ → Option Input) (before now : PlaceBook) (limit : Option FormulaFault) : Type 0
    where
      pub entries : ℕ → ℕ → Option Entry
      pub entered : AreEntries sheets here values entries
      pub updated : BookUpdated here (contents_of entries) before now
      pub first : IsFirstPassed entries limit

  pub none_entered : (laws : UpdatesAreWrites) (book : PlaceBook) → AreEntered (λ _ _. None) book book None
  none_entered laws book = record {
    entries = λ _ _. None;
    entered = λ row col. refl;
    updated = laws.none book here;
    first = λ row col. refl;
  }

module _ (reads_once : IsReadOnce) (sheets : Sheets) (here : ℕ) where
  -- a value makes one thing of its cell
  formula_once : (text : List ℕ) (one other : Entry) → IsFormulaEntry sheets here text one
      → IsFormulaEntry sheets here text other → one ≡ other
  formula_once text one other is is' =
      let (formula, limit) =
      reads_once sheets here text is.formula is'.formula one.limit other.limit is.is_read is'.is_read in
      ap (λ held. entry_as held one.limit)
      (is.content_is ∙ ap (λ read. Some (content.Formula read)) formula ∙ sym is'.content_is)
      ∙ ap (λ passed. entry_as other.content passed) limit

  entry_once : (value : Input) (one other : Entry) → IsEntry sheets here value one → IsEntry sheets here value other
      → one ≡ other
  entry_once input.Skip one other is is' = absurd is
  entry_once input.Empty one other is is' = is ∙ sym is'
  entry_once (input.Number number) one other is is' = is ∙ sym is'
  entry_once (input.Text text) one other is is' = is ∙ sym is'
  entry_once (input.Truth truth) one other is is' = is ∙ sym is'
  entry_once (input.FormulaText text) one other is is' = formula_once text one other is is'

  entry_of_once : (value : Option Input) (one other : Option Entry) → IsEntryOf sheets here value one
      → IsEntryOf sheets here value other → one ≡ other
  entry_of_once None one other is is' = is ∙ sym is'
  entry_of_once (Some value) None other is is' = absurd is
  entry_of_once (Some value) (Some one) None is is' = absurd is'
  entry_of_once (Some value) (Some one) (Some other) is is' =
      ap (λ entry. Some entry) (entry_once value one other is is')

  pub entries_once : (values : ℕ → ℕ → Option Input) (one other : ℕ → ℕ → Option Entry)
      → AreEntries sheets here values one → AreEntries sheets here values other → one ≡ other
  entries_once values one other are are' = fun_ext (λ row. fun_ext (λ col.
      entry_of_once (values row col) (one row col) (other row col) (are row col) (are' row col)))

  -- what a place holds already is what it is given, if it was given that before
  held : (value : Input) (entry : Entry) (was : Option Input) (found : Option Entry) → IsEntry sheets here value entry
      → IsEntryOf sheets here was found → (was ≡ None) ⊎ (was ≡ Some value) → (found ≡ None) ⊎ (found ≡ Some entry)
  held value entry was found is are (inl none) = inl (subst (λ one. IsEntryOf sheets here one found) none are)
  held value entry was found is are (inr some) =
      inr (entry_of_once (Some value) found (Some entry) (subst (λ one. IsEntryOf sheets here one found) some are) is)

  one_more : (b : Bool) (value : Input) (entry : Entry) (was : Option Input) (found : Option Entry)
      → IsEntry sheets here value entry → IsEntryOf sheets here was found
      → IsEntryOf sheets here (cond b (Some value) was) (cond b (Some entry) found)
  one_more true value entry was found is are = is
  one_more false value entry was found is are = are

  contents_more : (row col : ℕ) (entry : Entry) (entries : ℕ → ℕ → Option Entry)
      → with_update row col entry.content (contents_of entries) ≡ contents_of (with_one row col entry entries)
  contents_more row col entry entries = fun_ext (λ r. fun_ext (λ c. pushed (r == row && c == col) (entries r c)))
    where
      pushed : (b : Bool) (found : Option Entry)
          → cond b (Some entry.content) (contents_of (λ _ _. found) 0 0)
          ≡ contents_of (λ _ _. cond b (Some entry) found) 0 0
      pushed true found = refl
      pushed false found = refl

  pub next_entered : (laws : UpdatesAreWrites) (values : ℕ → ℕ → Option Input) (before between after : PlaceBook)
      (limit : Option FormulaFault) (row col : ℕ) (value : Input) (entry : Entry)
      → (values row col ≡ None) ⊎ (values row col ≡ Some value) → IsEntry sheets here value entry
      → after ≡ book_put here row col entry.content between → AreEntered sheets here values before between limit
      → AreEntered sheets here (with_one row col value values) before after (first_of limit entry.limit)
  next_entered laws values before between after limit row col value entry was is put so_far = record {
    entries = with_one row col entry so_far.entries;
    entered =
        λ r c. one_more (r == row && c == col) value entry (values r c) (so_far.entries r c) is (so_far.entered r c);
    updated = subst (λ updates. BookUpdated here updates before after) (contents_more row col entry so_far.entries)
        (subst (BookUpdated here (with_update row col entry.content (contents_of so_far.entries)) before) (sym put)
        (laws.put before between here row col entry.content (contents_of so_far.entries) so_far.updated));
    first = first_after so_far.entries row col entry
        (held value entry (values row col) (so_far.entries row col) is (so_far.entered row col) was) limit
        entry.limit refl
        so_far.first;
  }
