-- Sending one list of bytes after another, and lines that may be cut.
use Rattle.std.proofs.Common.{◌≡◌, ℕ, ◌+◌, ◌≤◌, List, [], ◌++◌, length, min, take, drop, Option, None, Some}
use Rattle.std.proofs.Common.{Result, Ok, Err, true, false, IfSome, inl, inr, refl, sym, subst, ◌∙◌, ap, arith}
use Rattle.std.proofs.lemmas.List.{append-nil, take-append-drop, take-append-le, take_min}
use Rattle.std.proofs.Math.Seq.{take-append-add}
use Rattle.std.specs.Option.{option_map}
use Rattle.std.specs.Result.{IsErr}
use Rattle.sheets_http.specs.declared.outside.SinkFault.{SinkFault}
use Rattle.conversation.specs.Exchanges.{Sends}
use Rattle.sheets_http.specs.declared.outside.SinkFault.TheVariants as fault
use Rattle.cell_value.specs.FaultCount.{Rose}
use Rattle.conversation.specs.Written.{append_twice}
use Rattle.commands.specs.Finish.{IsPrefix, Says, written_whole, sink_failed, no_memory}

-- the first bytes of a line that were sent
first_sent : (before after : Option (List ℕ)) (line : List ℕ) (sent : Result (Unit {0}) SinkFault)
    → Sends before after line sent
    → IfSome before (λ said. (first : List ℕ) × IsPrefix first line × (after ≡ Some (said ++ first)))
first_sent None after line sent sends = tt
first_sent (Some said) after line (Ok done) sends = (line, ([], sym (append-nil line)), sends)
first_sent (Some said) after line (Err fault) sends =
    (take sends.0 line, (drop sends.0 line, sym (take-append-drop sends.0 line)), sends.1)

-- what is sent of a line is said
pub says_what_is_sent : (before after : Option (List ℕ)) (faults faults' shortages shortages' : ℕ) (line : List ℕ)
    (sent : Result (Unit {0}) SinkFault)
    → Sends before after line sent → (sent ≡ Err fault.Failed → Rose faults faults')
    → (sent ≡ Err fault.NoMemory → Rose shortages shortages')
    → Says before after faults faults' shortages shortages' line
says_what_is_sent before after faults faults' shortages shortages' line (Ok done) sends cause short =
    record { first = first_sent before after line (Ok done) sends; whole = written_whole sends }
says_what_is_sent before after faults faults' shortages shortages' line (Err fault.Failed) sends cause short =
    record { first = first_sent before after line (Err fault.Failed) sends; whole = sink_failed (cause refl) }
says_what_is_sent before after faults faults' shortages shortages' line (Err fault.NoMemory) sends cause short =
    record { first = first_sent before after line (Err fault.NoMemory) sends; whole = no_memory (short refl) }

-- what is said of a line is said of one that is the same
pub says_same : {before after : Option (List ℕ)} {faults faults' shortages shortages' : ℕ} {line line' : List ℕ}
    → line ≡ line' → Says before after faults faults' shortages shortages' line
    → Says before after faults faults' shortages shortages' line'
says_same {before} {after} {faults} {faults'} {shortages} {shortages'} same says =
    subst (Says before after faults faults' shortages shortages') same says

-- what rose in the second of two calls, and fell in none, rose in both
pub Rose-later : (count count' count'' : ℕ) → count ≤ count' → Rose count' count'' → Rose count count''
Rose-later count count' count'' later (inl more) = inl (omega arith)
Rose-later count count' count'' later (inr last) = inr last

-- one list is sent, and then another
pub Sends-then : (before middle after : Option (List ℕ)) (a b : List ℕ) (done : Unit {0})
    (sent : Result (Unit {0}) SinkFault)
    → Sends before middle a (Ok done) → Sends middle after b sent → Sends before after (a ++ b) sent
Sends-then before middle after a b done (Ok done') first second =
    second ∙ ap (option_map (λ bytes. bytes ++ b)) first ∙ append_twice before a b
Sends-then before middle after a b done (Err fault) first second = (
  length a + second.0,
  rw (take-append-add a b second.0)
      (second.1 ∙ ap (option_map (λ bytes. bytes ++ take second.0 b)) first ∙ append_twice before a (take second.0 b)),
)

-- where the first list is cut, so are both
pub Sends-cut : (before after : Option (List ℕ)) (a b : List ℕ) (fault : SinkFault)
    → Sends before after a (Err fault) → Sends before after (a ++ b) (Err fault)
Sends-cut before after a b fault cut =
    let within : min cut.0 (length a) ≤ length a = omega arith in
    let same : take (min cut.0 (length a)) (a ++ b) ≡ take cut.0 a = take-append-le (min cut.0 (length a)) a b within
    ∙ take_min cut.0 a in
    (min cut.0 (length a), rw same cut.1)

-- whatever fault is told
pub Sends-cut-so : (before after : Option (List ℕ)) (a b : List ℕ) (fault : SinkFault)
    (sent : Result (Unit {0}) SinkFault) → IsErr sent → Sends before after a (Err fault)
    → Sends before after (a ++ b) sent
Sends-cut-so before after a b fault (Ok done) is cut = absurd (not_err is)
  where
    not_err : false ≡ true → ⊥
    not_err e = cc
Sends-cut-so before after a b fault (Err other) is cut = Sends-cut before after a b fault cut
