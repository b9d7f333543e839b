-- What a desk is opened with.
use Rattle.std.proofs.Common.{◌≡◌, inl, inr, ℕ, ◌+◌, ◌<◌, ◌≤◌, List, [], ◌∷◌, length, map, take, refl, sym, ap, subst, ◌∙◌, arith}
use Rattle.std.specs.Prelude.{Option, Some, None, IfSome, Bool, IsTrue}
use Rattle.std.proofs.lemmas.List.{length-take, take_all}
use Rattle.cell_value.specs.FaultCount.{last_count, Rose, StaysSteady}
use Rattle.desk.specs.declared.entry.Entry.{Entry}
use Rattle.desk.specs.declared.entry.Ask.{Ask}
use Rattle.desk.specs.declared.entry.Noted.{Noted}
use Rattle.desk.specs.declared.entry.Noted.TheVariants as noted
use Rattle.desk.specs.Journal.{heading}
use Rattle.desk.specs.Steps.{Outcome}
use Rattle.desk.specs.Histories.{AreAccepted, IsHistory, IsBadAt}
use Rattle.desk.specs.Points.{entries_of, last_counted, marked_last, AreOneMore, Keeps}
use Rattle.desk.specs.Opening.{HasOpened, HasBadJournal, HasLongJournal}
use Rattle.desk.specs.Reopening.{CanReopen}
use Rattle.desk.proofs.Accepts.{short_history, one_history, nowhere_bad}

-- ---- lists without marks

pub entries_alone : (entries : List Entry) → entries_of (map noted.Entry entries) ≡ entries
entries_alone [] = refl
entries_alone (e ∷ entries) = ap (λ (l : List Entry). e ∷ l) (entries_alone entries)

pub counted_alone : (count : ℕ) (entries : List Entry) → last_counted count (map noted.Entry entries) ≡ count
counted_alone count [] = refl
counted_alone count (e ∷ entries) = counted_alone count entries

-- ---- what was loaded

-- where no more than the limit was loaded, that is all
pub loaded_all : (limit : ℕ) (kept : Option (List ℕ)) (bytes : List ℕ)
    → IfSome kept (λ k. bytes ≡ take (limit + 1) k) → length bytes ≤ limit → IfSome kept (λ k. k ≡ bytes)
loaded_all limit None bytes loaded short = tt
loaded_all limit (Some k) bytes loaded short =
    let long = ap (λ (l : List ℕ). length l) loaded ∙ length-take (limit + 1) k in
    sym (loaded ∙ take_all (limit + 1) k (omega (arith, long, short)))

-- where more was loaded, more is kept
pub loaded_more : (limit : ℕ) (kept : Option (List ℕ)) (bytes : List ℕ)
    → IfSome kept (λ k. bytes ≡ take (limit + 1) k) → limit < length bytes → HasLongJournal limit kept
loaded_more limit None bytes loaded long = tt
loaded_more limit (Some k) bytes loaded long =
    let size = ap (λ (l : List ℕ). length l) loaded ∙ length-take (limit + 1) k in omega (arith, size, long)

-- a steady keeper's count doesn't rise
pub never_rose : (steady steady' : Bool) (count count' : ℕ) → StaysSteady steady steady' count count' → IsTrue steady
    → count < last_count → Rose count count' → ⊥
never_rose steady steady' count count' stays is low (inl more) =
    let same = (stays is).1 in omega (arith, same, more)
never_rose steady steady' count count' stays is low (inr last) =
    let same = (stays is).1 in omega (arith, same, last, low)

module _ (plain : List Entry → Ask → Outcome → Type 0) where
  -- the entries are the history's
  opened_entries : (limit : ℕ) (kept : Option (List ℕ)) (list : List Noted)
      → (opened : HasOpened plain limit kept list) → entries_of list ≡ opened.entries
  opened_entries limit kept list opened =
      ap (λ (l : List Noted). entries_of l) opened.list_is ∙ entries_alone opened.entries

  pub opened_accepted : (limit : ℕ) (kept : Option (List ℕ)) (list : List Noted) → HasOpened plain limit kept list
      → AreAccepted plain (entries_of list)
  opened_accepted limit kept list opened =
      subst (AreAccepted plain) (sym (opened_entries limit kept list opened)) opened.history.2

  -- the journal of what was opened is kept
  pub opened_keeps : (limit : ℕ) (kept kept' : Option (List ℕ)) (list : List Noted) → HasOpened plain limit kept list
      → kept' ≡ kept → Keeps plain limit kept' list
  opened_keeps limit kept kept' list opened same =
      subst (λ (k : Option (List ℕ)). Keeps plain limit k list) (sym same) (by_kept kept opened.kept_are)
    where
      by_kept : (k : Option (List ℕ)) → IfSome k (λ b. b ≡ opened.bytes) → Keeps plain limit k list
      by_kept None are = tt
      by_kept (Some b) are = record {
        short = subst (λ (l : List ℕ). length l ≤ limit) (sym are) opened.short;
        entries = opened.entries;
        history = subst (λ (l : List ℕ). IsHistory plain l opened.entries) (sym are) opened.history;
        one_of = inl (sym (opened_entries limit kept list opened));
      }

  -- nothing was noted since
  pub opened_counts : (limit count : ℕ) (kept : Option (List ℕ)) (list : List Noted) → HasOpened plain limit kept list
      → count ≡ last_counted count list
  opened_counts limit count kept list opened =
      sym (ap (λ (l : List Noted). last_counted count l) opened.list_is ∙ counted_alone count opened.entries)

  -- ---- opened again

  pub can_reopen : CanReopen plain
  can_reopen limit list None keeps = tt
  can_reopen limit list (Some bytes) keeps = record {
    not_long = λ long. omega (arith, long, keeps.short);
    not_bad = λ number bad.
        nowhere_bad plain bytes keeps.entries number keeps.history
        (subst (λ (l : List ℕ). IsBadAt plain l number) (sym bad.kept_are) bad.bad);
    opened = λ next is. subst (AreOneMore (entries_of list) (marked_last [] list))
        (one_history plain bytes keeps.entries is.entries keeps.history
        (subst (λ (l : List ℕ). IsHistory plain l is.entries) (sym is.kept_are) is.history)
        ∙ sym (opened_entries limit (Some bytes) next is))
        keeps.one_of;
  }

  -- ---- where no byte is kept

  empty_history : (bytes : List ℕ) (entries : List Entry) → bytes ≡ [] → IsHistory plain bytes entries → entries ≡ []
  empty_history bytes entries none history =
      one_history plain [] entries [] (subst (λ (l : List ℕ). IsHistory plain l entries) none history)
      (short_history plain [] heading refl)

  pub empty_opens : (limit : ℕ) (kept : Option (List ℕ)) (list : List Noted) → kept ≡ Some []
      → HasOpened plain limit kept list → list ≡ []
  empty_opens limit kept list none opened =
      let bytes_are = subst (λ (k : Option (List ℕ)). IfSome k (λ b. b ≡ opened.bytes)) none opened.kept_are in
      opened.list_is ∙ ap (λ (l : List Entry). map noted.Entry l)
      (empty_history opened.bytes opened.entries (sym bytes_are) opened.history)

  pub empty_not_bad : (limit : ℕ) (kept : Option (List ℕ)) (number : ℕ) → kept ≡ Some []
      → ¬ HasBadJournal plain limit kept number
  empty_not_bad limit kept number none bad =
      let bytes_are = subst (λ (k : Option (List ℕ)). IfSome k (λ b. b ≡ bad.bytes)) none bad.kept_are in
      nowhere_bad plain [] [] number (short_history plain [] heading refl)
      (subst (λ (l : List ℕ). IsBadAt plain l number) (sym bytes_are) bad.bad)

pub empty_not_long : (limit : ℕ) (kept : Option (List ℕ)) → kept ≡ Some [] → ¬ HasLongJournal limit kept
empty_not_long limit kept none long =
    let more = subst (λ (k : Option (List ℕ)). IfSome k (λ b. limit < length b)) none long in omega (arith, more)
