-- What a call adds to the told list, and what others added.
use Rattle.std.proofs.Common.{◌≡◌, ℕ, ◌<◌, Bool, true, false, List, [], ◌∷◌, ◌++◌, length, drop, refl, sym, ap, subst, ◌∙◌, length-append}
use Rattle.std.specs.Prelude.{All, if◌then◌else◌}
use Rattle.std.proofs.lemmas.List.{append-nil, drop-drop}
use Rattle.std.proofs.lemmas.List.Elements.{All-nil, All-cons, All-drop}
use Rattle.std.proofs.Math.Seq.{drop-append_seam}
use Rattle.history_lock.specs.History.{StartsWith, NoneOf, AllOf}
use Rattle.desk.specs.declared.entry.Entry.{Entry}
use Rattle.desk.specs.declared.entry.Ask.{Ask}
use Rattle.desk.specs.declared.entry.Reply.{Reply}
use Rattle.desk.specs.declared.entry.Noted.{Noted}
use Rattle.desk.specs.declared.entry.Noted.TheVariants as noted
use Rattle.desk.specs.Steps.{Outcome, entry_of}
use Rattle.desk.specs.Points.{as_one_thread, as_out_of_memory, as_unavailable, caller_of, Happens, AreOthers}

-- the list is the told one, or one item of the caller more
abbrev Grows : ℕ → List Noted → List Noted → Type 0
Grows caller told after =
    (more : List Noted) × (after ≡ told ++ more) × AllOf caller_of caller more

nothing_more : (caller : ℕ) (told after : List Noted) → after ≡ told → Grows caller told after
nothing_more caller told after same = ([], same ∙ sym (append-nil told), All-nil (λ item. caller_of item ≡ caller))

one_more : (caller : ℕ) (told after : List Noted) (item : Noted) → after ≡ told ++ item ∷ [] → caller_of item ≡ caller
    → Grows caller told after
one_more caller told after item added from = (
  item ∷ [],
  added,
  All-cons (λ i. caller_of i ≡ caller) item [] from (All-nil (λ i. caller_of i ≡ caller)),
)

one_or_none : (caller : ℕ) (ask : Ask) (told after : List Noted) (b : Bool)
    → after ≡ (if b then told ++ noted.Entry (entry_of caller ask) ∷ [] else told) → Grows caller told after
one_or_none caller ask told after true added = one_more caller told after (noted.Entry (entry_of caller ask)) added refl
one_or_none caller ask told after false added = nothing_more caller told after added

grows : (plain : List Entry → Ask → Outcome → Type 0) (pair : ℕ × ℕ) (caller : ℕ) (ask : Ask) (told after : List Noted)
    (reply : Reply) → Happens plain pair caller ask told after reply → Grows caller told after
grows plain pair caller ask told after reply happens = elim happens.comes_to [
  | as_one_thread is ↦ one_or_none caller ask told after is.outcome.accepts is.item
  | as_unavailable is ↦ one_more caller told after (noted.Mark (entry_of caller ask) reply.faults.0 reply.faults.1)
      is.item refl
  | as_out_of_memory is ↦ nothing_more caller told after is.item
]

module _ (plain : List Entry → Ask → Outcome → Type 0) (pair : ℕ × ℕ) (caller : ℕ) (ask : Ask) (told after : List Noted)
    (reply : Reply) (happens : Happens plain pair caller ask told after reply) where
  pub happens_begins : StartsWith after told
  happens_begins = let (more, parts, own) = grows plain pair caller ask told after reply happens in (more, parts)

  pub happens_own : AllOf caller_of caller (drop (length told) after)
  happens_own =
      let (more, parts, own) = grows plain pair caller ask told after reply happens in
      subst (λ (l : List Noted). AllOf caller_of caller (drop (length told) l)) (sym parts)
      (subst (λ (l : List Noted). AllOf caller_of caller l) (sym (drop-append_seam told more)) own)

-- items behind what was seen are behind the list at the opening, with which that begins
pub others_behind : (callers caller : ℕ) (opening seen told : List Noted) → StartsWith seen opening
    → NoneOf caller_of caller (drop (length seen) told)
    → All (λ item. caller_of item < callers) (drop (length opening) told)
    → AreOthers callers caller (drop (length seen) told)
others_behind callers caller opening seen told (rest, parts) not_own numbered = record {
  not_own = not_own;
  numbered = subst (λ items. All (λ item. caller_of item < callers) items)
      (drop-drop (length rest) (length opening) told
      ∙ ap (λ n. drop n told) (sym (ap (λ (l : List Noted). length l) parts ∙ length-append opening rest)))
      (All-drop (λ item. caller_of item < callers) (length rest) (drop (length opening) told) numbered);
}
