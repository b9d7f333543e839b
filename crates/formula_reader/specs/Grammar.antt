-- The grammar of formulas (Google Docs Editors Help, "Using arithmetic formulas in Sheets": the
-- operators and their order), on the symbols that a formula has behind its `=`:
--
--     formula    = comparison
--     comparison = join { ("=" | "<>" | "<" | "<=" | ">" | ">=") join }
--     join       = sum { "&" sum }
--     sum        = term { ("+" | "-") term }
--     term       = unary { ("*" | "/") unary }
--     unary      = { "-" | "+" } primary
--     primary    = number | text | truth value | reference | "#REF!" | word
--                | function "(" [ comparison { "," comparison } ] ")" | "(" comparison ")"
use Rattle.std.specs.Prelude.{ℕ, ℤ, Bool, List, [], ◌∷◌, ◌++◌}
use Rattle.grid_range.specs.declared.area.Area.{Area}
use Rattle.formula_reader.specs.declared.tokens.token.Operator.{Operator}
use Rattle.formula_reader.specs.declared.tokens.token.Operator.TheVariants.{Equal, NotEqual, Less, AtMost, Greater, AtLeast, Join as Joining, Add, Subtract, Multiply, Divide}
use Rattle.formula_reader.specs.declared.grammar.level.Level.{Level}
use Rattle.formula_reader.specs.declared.grammar.level.Level.TheVariants.{Comparison, Join, Sum, Term, Unary, Primary}
use Rattle.formula_reader.specs.declared.symbols.Symbol.{Symbol}
use Rattle.formula_reader.specs.declared.symbols.Symbol.TheVariants.{Number, Text, Truth, Ref, Lost, Word, Function, Operator as Sign, Open, Close, Comma}
use Rattle.formula_reader.specs.Tree.{Expression, number, text, truth, reference, lost, word, negative, binary, call, Arguments, no_arguments, argument}

-- the level of an operator between two operands
abbrev pub level_of : Operator → Level
level_of Equal = Comparison
level_of NotEqual = Comparison
level_of Less = Comparison
level_of AtMost = Comparison
level_of Greater = Comparison
level_of AtLeast = Comparison
level_of Joining = Join
level_of Add = Sum
level_of Subtract = Sum
level_of Multiply = Term
level_of Divide = Term

-- the level of its operands
abbrev pub tighter : Level → Level
tighter Comparison = Join
tighter Join = Sum
tighter Sum = Term
tighter Term = Unary
tighter Unary = Primary
tighter Primary = Primary

mutual
  -- the symbols are of the level, with this tree
  pub data Has : Level → List Symbol → Expression → Type 0 where
    -- one operand alone
    alone : (level : Level) (s : List Symbol) (t : Expression) → Has (tighter level) s t → Has level s t
    -- two operands; of a chain the left ones are together
    chain : (op : Operator) (s z : List Symbol) (t u : Expression)
        → Has (level_of op) s t → Has (tighter (level_of op)) z u
        → Has (level_of op) (s ++ Sign op ∷ z) (binary op t u)
    -- `-` before an operand
    minus : (s : List Symbol) (t : Expression) → Has Unary s t → Has Unary (Sign Subtract ∷ s) (negative t)
    -- `+` before an operand is as good as nothing
    plus : (s : List Symbol) (t : Expression) → Has Unary s t → Has Unary (Sign Add ∷ s) t
    -- single symbols
    a_number : (n : ℤ) → Has Primary (Number n ∷ []) (number n)
    a_text : (t : List ℕ) → Has Primary (Text t ∷ []) (text t)
    a_truth : (b : Bool) → Has Primary (Truth b ∷ []) (truth b)
    a_reference : (area : Area) → Has Primary (Ref area ∷ []) (reference area)
    a_lost : Has Primary (Lost ∷ []) lost
    a_word : (w : List ℕ) → Has Primary (Word w ∷ []) (word w)
    -- a function without arguments, and one of arguments
    bare_call : (name : List ℕ) → Has Primary (Function name ∷ Open ∷ Close ∷ []) (call name no_arguments)
    a_call : (name : List ℕ) (s : List Symbol) (ts : Arguments) → Are s ts
        → Has Primary (Function name ∷ Open ∷ s ++ Close ∷ []) (call name ts)
    -- brackets round an expression are as good as nothing
    bracket : (s : List Symbol) (t : Expression) → Has Comparison s t → Has Primary (Open ∷ s ++ Close ∷ []) t

  -- the symbols are arguments between commas, with these trees
  pub data Are : List Symbol → Arguments → Type 0 where
    -- the last one
    last : (s : List Symbol) (t : Expression) → Has Comparison s t → Are s (argument t no_arguments)
    -- one before others
    next : (s z : List Symbol) (t : Expression) (ts : Arguments) → Has Comparison s t → Are z ts
        → Are (s ++ Comma ∷ z) (argument t ts)

-- the symbols of a formula have that tree
abbrev pub HasTree : List Symbol → Expression → Type 0
HasTree symbols tree = Has Comparison symbols tree
