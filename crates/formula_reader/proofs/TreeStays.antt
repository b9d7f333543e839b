-- Symbols with a tree have one where operands are exchanged.
use Rattle.std.proofs.Common.{◌≡◌, Bool, List, [], ◌∷◌, ◌++◌, refl, inl, inr}
use Rattle.formula_reader.specs.declared.tokens.token.Operator.TheVariants.{Add, Subtract}
use Rattle.formula_reader.specs.declared.grammar.level.Level.{Level}
use Rattle.formula_reader.specs.declared.grammar.level.Level.TheVariants.{Primary, Unary}
use Rattle.formula_reader.specs.declared.symbols.Symbol.{Symbol}
use Rattle.formula_reader.specs.declared.symbols.Symbol.TheVariants.{Number, Text, Truth, Ref, Lost, Word, Function, Operator as Sign, Open, Close, Comma}
use Rattle.formula_reader.specs.Tree.{Expression, number, text, truth, reference, lost, word, negative, binary, call, Arguments, no_arguments, argument}
use Rattle.formula_reader.specs.Grammar.{tighter, level_of, Has, Are, HasTree, alone, chain, minus, plus, a_number, a_text, a_truth, a_reference, a_lost, a_word, bare_call, a_call, bracket, last, next}
use Rattle.formula_reader.proofs.Neighbours.{operand, kind_of_symbol}
use Rattle.formula_reader.proofs.Exchanged.{AreExchanged, first_kept, none_left, parted, last_kept}

-- the symbols have a tree
abbrev HasSome : Level → List Symbol → Type 0
HasSome level symbols = (tree : Expression) × Has level symbols tree

abbrev AreSome : List Symbol → Type 0
AreSome symbols = (trees : Arguments) × Are symbols trees

-- each operand is one alone
operand_alone : (own : Symbol) (names : Bool) → kind_of_symbol own ≡ operand names → HasSome Primary (own ∷ [])
operand_alone (Number n) names is = (number n, a_number n)
operand_alone (Text t) names is = (text t, a_text t)
operand_alone (Truth b) names is = (truth b, a_truth b)
operand_alone (Ref area) names is = (reference area, a_reference area)
operand_alone Lost names is = (lost, a_lost)
operand_alone (Word w) names is = (word w, a_word w)
operand_alone _ names is = absurd cc

-- so one in its place is one
alone_stays : (own : Symbol) (t : Expression) → Has Primary (own ∷ []) t → (all : List Symbol)
    → AreExchanged (own ∷ []) all
    → HasSome Primary all
alone_stays own t has [] are = absurd are
alone_stays own t has (other ∷ []) are =
    elim are.0 [ inl same ↦ rw (← same) (t, has) | inr is ↦ operand_alone other is.0 is.2 ]
alone_stays own t has (other ∷ more ∷ later) are = absurd are.1

-- and all symbols of a level, and arguments, stay such
mutual
  operand_stays : (level : Level) (s : List Symbol) (t : Expression) → Has level s t → (all : List Symbol)
      → AreExchanged s all
      → HasSome level all
  operand_stays level s t (alone _ _ _ h) all are =
      let own = operand_stays (tighter level) s t h all are in
      (own.0, alone level all own.0 own.1)
  operand_stays _ _ _ (chain op s z t u h k) all are =
      let found = parted s z (Sign op) all refl are in
      let one = operand_stays (level_of op) s t h found.front found.fronts in
      let other = operand_stays (tighter (level_of op)) z u k found.back found.backs in
      rw found.whole (binary op one.0 other.0, chain op found.front found.back one.0 other.0 one.1 other.1)
  operand_stays _ _ _ (minus s t h) all are =
      let found = first_kept (Sign Subtract) s all refl are in
      let own = operand_stays Unary s t h found.0 found.2 in
      rw found.1 (negative own.0, minus found.0 own.0 own.1)
  operand_stays _ _ _ (plus s t h) all are =
      let found = first_kept (Sign Add) s all refl are in
      let own = operand_stays Unary s t h found.0 found.2 in
      rw found.1 (own.0, plus found.0 own.0 own.1)
  operand_stays _ _ _ (a_number n) all are = alone_stays (Number n) (number n) (a_number n) all are
  operand_stays _ _ _ (a_text t) all are = alone_stays (Text t) (text t) (a_text t) all are
  operand_stays _ _ _ (a_truth b) all are = alone_stays (Truth b) (truth b) (a_truth b) all are
  operand_stays _ _ _ (a_reference area) all are = alone_stays (Ref area) (reference area) (a_reference area) all are
  operand_stays _ _ _ a_lost all are = alone_stays Lost lost a_lost all are
  operand_stays _ _ _ (a_word w) all are = alone_stays (Word w) (word w) (a_word w) all are
  operand_stays _ _ _ (bare_call name) all are =
      let found = first_kept (Function name) (Open ∷ Close ∷ []) all refl are in
      let opened = first_kept Open (Close ∷ []) found.0 refl found.2 in
      let closed = first_kept Close [] opened.0 refl opened.2 in
      rw (found.1, opened.1, closed.1, none_left closed.0 closed.2) (call name no_arguments, bare_call name)
  operand_stays _ _ _ (a_call name s ts h) all are =
      let found = first_kept (Function name) (Open ∷ s ++ Close ∷ []) all refl are in
      let opened = first_kept Open (s ++ Close ∷ []) found.0 refl found.2 in
      let closed = last_kept s Close opened.0 refl opened.2 in
      let own = arguments_stay s ts h closed.0 closed.2 in
      rw (found.1, opened.1, closed.1) (call name own.0, a_call name closed.0 own.0 own.1)
  operand_stays _ _ _ (bracket s t h) all are =
      let opened = first_kept Open (s ++ Close ∷ []) all refl are in
      let closed = last_kept s Close opened.0 refl opened.2 in
      let own = operand_stays _ s t h closed.0 closed.2 in
      rw (opened.1, closed.1) (own.0, bracket closed.0 own.0 own.1)

  arguments_stay : (s : List Symbol) (ts : Arguments) → Are s ts → (all : List Symbol) → AreExchanged s all
      → AreSome all
  arguments_stay s _ (last _ t h) all are =
      let own = operand_stays _ s t h all are in
      (argument own.0 no_arguments, last all own.0 own.1)
  arguments_stay _ _ (next s z t ts h k) all are =
      let found = parted s z Comma all refl are in
      let one = operand_stays _ s t h found.front found.fronts in
      let others = arguments_stay z ts k found.back found.backs in
      rw found.whole (argument one.0 others.0, next found.front found.back one.0 others.0 one.1 others.1)

pub tree_stays : (symbols : List Symbol) (tree : Expression) → HasTree symbols tree → (all : List Symbol)
    → AreExchanged symbols all → (other : Expression) × HasTree all other
tree_stays symbols tree has all are = operand_stays _ symbols tree has all are
