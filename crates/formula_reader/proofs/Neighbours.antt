-- Which symbols of a formula with a tree stand side by side.
use Rattle.std.proofs.Common.{◌≡◌, Bool, true, false, List, [], ◌∷◌, ◌++◌, map, refl}
use Rattle.std.specs.Prelude.{Option, Some, None}
use Rattle.std.proofs.lemmas.List.{map-append}
use Rattle.std.proofs.lemmas.Option.{none-some}
use Rattle.formula_reader.specs.declared.tokens.token.Operator.{Operator}
use Rattle.formula_reader.specs.declared.tokens.token.Operator.TheVariants.{Add, Subtract}
use Rattle.formula_reader.specs.declared.tokens.token.Token.{Token}
use Rattle.formula_reader.specs.declared.tokens.token.Token.TheVariants as token
use Rattle.formula_reader.specs.declared.symbols.Symbol.{Symbol}
use Rattle.formula_reader.specs.declared.symbols.Symbol.TheVariants as symbol
use Rattle.formula_reader.specs.declared.grammar.level.Level.{Level}
use Rattle.formula_reader.specs.Tree.{Expression, Arguments}
use Rattle.formula_reader.specs.Grammar.{tighter, level_of, Has, Are, HasTree, alone, chain, minus, plus, a_number, a_text, a_truth, a_reference, a_lost, a_word, bare_call, a_call, bracket, last, next}

-- what a symbol is beside others; an operand names cells or doesn't
pub data Kind : Type 0 where
  operand : Bool → Kind
  naming : Kind
  sign : Operator → Kind
  opening : Kind
  closing : Kind
  parting : Kind

abbrev pub kind_of_symbol : Symbol → Kind
kind_of_symbol (symbol.Number n) = operand false
kind_of_symbol (symbol.Text t) = operand false
kind_of_symbol (symbol.Truth b) = operand false
kind_of_symbol (symbol.Ref area) = operand true
kind_of_symbol symbol.Lost = operand false
kind_of_symbol (symbol.Word w) = operand true
kind_of_symbol (symbol.Function name) = naming
kind_of_symbol (symbol.Operator op) = sign op
kind_of_symbol symbol.Open = opening
kind_of_symbol symbol.Close = closing
kind_of_symbol symbol.Comma = parting

abbrev pub kind_of_token : Token → Kind
kind_of_token (token.Reference written) = operand true
kind_of_token (token.TitledReference title written) = operand true
kind_of_token (token.Function name) = naming
kind_of_token (token.Word word) = operand true
kind_of_token (token.Truth truth) = operand false
kind_of_token (token.Number number) = operand false
kind_of_token (token.Text text) = operand false
kind_of_token token.Lost = operand false
kind_of_token (token.Operator op) = sign op
kind_of_token token.Open = opening
kind_of_token token.Close = closing
kind_of_token token.Comma = parting

-- what was passed last
pub data State : Type 0 where
  before_operand : State
  behind_operand : State
  behind_name : State

-- the state behind a sign before an operand, None for an operator that is no such sign
abbrev pub behind_sign : Operator → Option State
behind_sign Add = Some before_operand
behind_sign Subtract = Some before_operand
behind_sign _ = None

-- the state behind a symbol of that kind, None where none stands there
abbrev pub step : State → Kind → Option State
step before_operand (operand names) = Some behind_operand
step before_operand naming = Some behind_name
step before_operand (sign op) = behind_sign op
step before_operand opening = Some before_operand
step before_operand closing = Some behind_operand
step before_operand parting = None
step behind_operand (operand names) = None
step behind_operand naming = None
step behind_operand (sign op) = Some before_operand
step behind_operand opening = None
step behind_operand closing = Some behind_operand
step behind_operand parting = Some before_operand
step behind_name (operand names) = None
step behind_name naming = None
step behind_name (sign op) = None
step behind_name opening = Some before_operand
step behind_name closing = None
step behind_name parting = None

-- symbols of these kinds lead from one state to another
abbrev pub Leads : State → List Kind → State → Type 0
Leads a [] b = a ≡ b
Leads a (kind ∷ later) b = (c : State) × (step a kind ≡ Some c) × Leads c later b

-- an operand leads behind one
pub leads_behind : (a b : State) (names : Bool) → step a (operand names) ≡ Some b → b ≡ behind_operand
leads_behind before_operand b names goes = cc
leads_behind behind_operand b names goes = absurd (none-some b goes)
leads_behind behind_name b names goes = absurd (none-some b goes)

-- one stretch of symbols behind another
pub leads_on : (a : State) (one other : List Kind) (b c : State) → Leads a one b → Leads b other c
    → Leads a (one ++ other) c
leads_on a [] other b c first second = rw first second
leads_on a (kind ∷ one) other b c first second = (first.0, first.1, leads_on first.0 one other b c first.2 second)

-- and both stretches again
pub leads_apart : (a : State) (one other : List Kind) (c : State) → Leads a (one ++ other) c
    → (b : State) × Leads a one b × Leads b other c
leads_apart a [] other c leads = (a, refl, leads)
leads_apart a (kind ∷ one) other c leads =
    let rest = leads_apart leads.0 one other c leads.2 in
    (rest.0, (leads.0, leads.1, rest.1), rest.2)

abbrev kinds_of : List Symbol → List Kind
kinds_of symbols = map kind_of_symbol symbols

-- so symbols lead from before an operand to behind one
abbrev AreOperand : List Symbol → Type 0
AreOperand symbols = Leads before_operand (kinds_of symbols) behind_operand

-- an operand before a symbol that leads on from it
before_next : (s z : List Symbol) (own : Symbol) (b c : State) → AreOperand s
    → step behind_operand (kind_of_symbol own) ≡ Some b
    → Leads b (kinds_of z) c → Leads before_operand (kinds_of (s ++ own ∷ z)) c
before_next s z own b c first goes later =
    rw (map-append kind_of_symbol s (own ∷ z))
    (leads_on before_operand (kinds_of s) (kinds_of (own ∷ z)) behind_operand c first (b, goes, later))

closed : (s : List Symbol) → AreOperand s → AreOperand (s ++ symbol.Close ∷ [])
closed s first = before_next s [] symbol.Close behind_operand behind_operand first refl refl

mutual
  operand_leads : (level : Level) (s : List Symbol) (t : Expression) → Has level s t → AreOperand s
  operand_leads level s t (alone _ _ _ h) = operand_leads (tighter level) s t h
  operand_leads _ _ _ (chain op s z t u h k) =
      before_next s z (symbol.Operator op) before_operand behind_operand
      (operand_leads (level_of op) s t h) refl (operand_leads (tighter (level_of op)) z u k)
  operand_leads _ _ _ (minus s t h) = (before_operand, refl, operand_leads _ s t h)
  operand_leads _ _ _ (plus s t h) = (before_operand, refl, operand_leads _ s t h)
  operand_leads _ _ _ (a_number n) = (behind_operand, refl, refl)
  operand_leads _ _ _ (a_text t) = (behind_operand, refl, refl)
  operand_leads _ _ _ (a_truth b) = (behind_operand, refl, refl)
  operand_leads _ _ _ (a_reference area) = (behind_operand, refl, refl)
  operand_leads _ _ _ a_lost = (behind_operand, refl, refl)
  operand_leads _ _ _ (a_word w) = (behind_operand, refl, refl)
  operand_leads _ _ _ (bare_call name) =
      (behind_name, refl, (before_operand, refl, (behind_operand, refl, refl)))
  operand_leads _ _ _ (a_call name s ts h) =
      (behind_name, refl, (before_operand, refl, closed s (arguments_lead s ts h)))
  operand_leads _ _ _ (bracket s t h) = (before_operand, refl, closed s (operand_leads _ s t h))

  arguments_lead : (s : List Symbol) (ts : Arguments) → Are s ts → AreOperand s
  arguments_lead s _ (last _ t h) = operand_leads _ s t h
  arguments_lead _ _ (next s z t ts h k) =
      before_next s z symbol.Comma before_operand behind_operand (operand_leads _ s t h) refl (arguments_lead z ts k)

pub tree_leads : (symbols : List Symbol) (tree : Expression) → HasTree symbols tree
    → Leads before_operand (map kind_of_symbol symbols) behind_operand
tree_leads symbols tree has = operand_leads _ symbols tree has
