-- The only answers to what is read.
use Rattle.std.proofs.Common.{◌≡◌, ◌≢◌, ◌<◌, ◌≤◌, length, length-append, List, ◌∷◌, sym, ap, ◌∙◌, subst, arith}
use Rattle.std.specs.Prelude.{Option, Some, None, Result, Ok, Err, IfOk}
use Rattle.formula_reader.specs.declared.tokens.token.Operator.{Operator}
use Rattle.formula_reader.specs.declared.grammar.level.Level.{Level}
use Rattle.formula_reader.specs.declared.symbols.Symbol.{Symbol}
use Rattle.formula_reader.specs.declared.symbols.Symbol.TheVariants.{Operator as Sign}
use Rattle.formula_reader.specs.Tree.{Expression, binary}
use Rattle.formula_reader.specs.Grammar.{level_of, tighter}
use Rattle.formula_reader.specs.LevelReading.{rank, Ends, Reads, ReadsOn, stops, goes_on, IsAnswer}
use Rattle.formula_reader.proofs.Chains.{reads_unrolled, unrolled_reads, at_operator, at_end, ends_here}

-- two ways of reading read the same
pub record Alike {A : Type 0} (R S : A → List Symbol → Type 0) : Type 0 where
  pub to : (a : A) (rest : List Symbol) → R a rest → S a rest
  pub from : (a : A) (rest : List Symbol) → S a rest → R a rest

pub alike_both : {A : Type 0} (R S T : A → List Symbol → Type 0) → Alike R S → Alike S T → Alike R T
alike_both R S T p q =
    record { to = λ a rest r. q.to a rest (p.to a rest r); from = λ a rest r. p.from a rest (q.from a rest r) }

-- what is the only answer to one is the only answer to the other
pub answer_alike : {A : Type 0} (R S : A → List Symbol → Type 0) (answer : Option (A × List Symbol))
    → Alike R S → IsAnswer S answer → IsAnswer R answer
answer_alike R S None p nothing = λ a rest r. nothing a rest (p.to a rest r)
answer_alike R S (Some found) p is =
    (p.from found.0 found.1 is.0, λ a rest r. is.1 a rest (p.to a rest r))

-- so it is where memory suffices
pub answer_alike_ok : {A B E : Type 0} (R S : A → List Symbol → Type 0) (view : B → Option (A × List Symbol))
    (result : Result B E) → Alike R S → IfOk result (λ b. IsAnswer S (view b)) → IfOk result (λ b. IsAnswer R (view b))
answer_alike_ok R S view (Ok b) p is = answer_alike R S (view b) p is
answer_alike_ok R S view (Err e) p is = is

-- behind an operator of the level and its operand, reading goes on
pub on_alike : (level next : Level) (t u v : Expression) (op : Operator) (symbols behind more : List Symbol)
    → symbols ≡ Sign op ∷ behind → level_of op ≡ level → next ≡ tighter level → v ≡ binary op t u
    → IsAnswer (Reads next behind) (Some (u, more))
    → Alike (ReadsOn level t symbols) (ReadsOn level v more)
on_alike level next t u v op symbols behind more whole same step joined is =
    let there = subst (λ (l : Level). IsAnswer (Reads l behind) (Some (u, more))) step is in
    record {
      to = λ w rest on.
          let found = at_operator level t symbols w rest on op behind whole same in
          let one = there.1 found.0 found.1 found.2 in
          subst (λ (e : Expression). ReadsOn level e more w rest) (ap (binary op t) one.0 ∙ sym joined)
          (subst (λ (s : List Symbol). ReadsOn level (binary op t found.0) s w rest) one.1 found.3);
      from = λ w rest on.
          subst (λ (s : List Symbol). ReadsOn level t s w rest) (sym whole)
          (goes_on t u w op behind more rest same there.0
          (subst (λ (e : Expression). ReadsOn level e more w rest) joined on));
    }

-- behind an operator without an operand, nothing is read
pub on_none : (level next : Level) (t : Expression) (op : Operator) (symbols behind : List Symbol)
    → symbols ≡ Sign op ∷ behind → level_of op ≡ level → next ≡ tighter level
    → IsAnswer (Reads next behind) None → IsAnswer (ReadsOn level t symbols) None
on_none level next t op symbols behind whole same step nothing = λ v rest on.
    let found = at_operator level t symbols v rest on op behind whole same in
    nothing found.0 found.1 (subst (λ (l : Level). Reads l behind found.0 found.1) (sym step) found.2)

-- without an operator of the level, reading stops
pub on_end : (level : Level) (t : Expression) (symbols : List Symbol) → rank level < 4 → Ends (tighter level) symbols
    → ((op : Operator) (rest : List Symbol) → symbols ≡ Sign op ∷ rest → level_of op ≢ level)
    → IsAnswer (ReadsOn level t symbols) (Some (t, symbols))
on_end level t symbols low ends no_operator = (
  stops t symbols (ends_here level symbols low ends no_operator),
  λ v rest on. at_end level t symbols v rest on no_operator,
)

-- behind the first operand, what is read is read on
pub chain_alike : (level next : Level) (symbols : List Symbol) (t : Expression) (behind : List Symbol) → rank level < 4
    → next ≡ tighter level → IsAnswer (Reads next symbols) (Some (t, behind))
    → Alike (Reads level symbols) (ReadsOn level t behind)
chain_alike level next symbols t behind low step is =
    let there = subst (λ (l : Level). IsAnswer (Reads l symbols) (Some (t, behind))) step is in
    record {
      to = λ v rest r.
          let un = reads_unrolled level symbols v rest low r in
          let one = there.1 un.first un.behind un.reads in
          subst (λ (e : Expression). ReadsOn level e behind v rest) one.0
          (subst (λ (s : List Symbol). ReadsOn level un.first s v rest) one.1 un.on);
      from = λ v rest on.
          unrolled_reads level symbols v rest (record { first = t; behind = behind; reads = there.0; on = on });
    }

-- without a first operand, nothing is read
pub chain_none : (level next : Level) (symbols : List Symbol) → rank level < 4 → next ≡ tighter level
    → IsAnswer (Reads next symbols) None → IsAnswer (Reads level symbols) None
chain_none level next symbols low step nothing = λ v rest r.
    let un = reads_unrolled level symbols v rest low r in
    nothing un.first un.behind (subst (λ (l : Level). Reads l symbols un.first un.behind) (sym step) un.reads)

-- what is left isn't longer
pub left_within : (level : Level) (symbols : List Symbol) (t : Expression) (rest : List Symbol)
    → Reads level symbols t rest → length rest ≤ length symbols
left_within level symbols t rest r = omega (arith, ap length r.whole, length-append r.front rest)
