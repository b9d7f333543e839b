-- The names of functions (Google Docs Editors Help, "Google Sheets function list").
use Rattle.std.specs.Prelude.{ℕ, Bool, true, false, List, [], ◌∷◌, codes, if◌then◌else◌, Option, Some, None}
use Rattle.std.specs.Option.{option_or}
use Rattle.std.specs.Str.{str_eq_ignore_ascii_case}
use Rattle.cell_calc.specs.declared.functions.table.Function.{Function}
use Rattle.cell_calc.specs.declared.functions.table.Function.TheVariants.{Sum, Min, Max, Count, CountA, If, And, Or, Not, Abs, Sign, Mod, Quotient, Len, Left, Right, Mid, Concatenate, Exact, Index, Match, CountIf, SumIf, Rows, Columns, IsBlank, IsNumber, IsText, IsError, IfError}

-- functions of numbers and of truth values
abbrev pub number_names : List (List ℕ × Function)
number_names =
    (codes "SUM", Sum) ∷ (codes "MIN", Min) ∷ (codes "MAX", Max) ∷ (codes "COUNT", Count) ∷ (codes "COUNTA", CountA)
    ∷ (codes "ABS", Abs) ∷ (codes "SIGN", Sign) ∷ (codes "MOD", Mod) ∷ (codes "QUOTIENT", Quotient) ∷ []

abbrev pub truth_names : List (List ℕ × Function)
truth_names =
    (codes "IF", If) ∷ (codes "AND", And) ∷ (codes "OR", Or) ∷ (codes "NOT", Not) ∷ (codes "ISBLANK", IsBlank)
    ∷ (codes "ISNUMBER", IsNumber) ∷ (codes "ISTEXT", IsText) ∷ (codes "ISERROR", IsError)
    ∷ (codes "IFERROR", IfError) ∷ []

-- functions of texts
abbrev pub text_names : List (List ℕ × Function)
text_names =
    (codes "LEN", Len) ∷ (codes "LEFT", Left) ∷ (codes "RIGHT", Right) ∷ (codes "MID", Mid)
    ∷ (codes "CONCATENATE", Concatenate) ∷ (codes "EXACT", Exact) ∷ []

-- functions that look into areas
abbrev pub look_up_names : List (List ℕ × Function)
look_up_names =
    (codes "INDEX", Index) ∷ (codes "MATCH", Match) ∷ (codes "COUNTIF", CountIf) ∷ (codes "SUMIF", SumIf)
    ∷ (codes "ROWS", Rows) ∷ (codes "COLUMNS", Columns) ∷ []

-- the one that has the name, in any ASCII case
abbrev pub named_among : List (List ℕ × Function) → List ℕ → Option Function
named_among [] name = None
named_among (named ∷ later) name =
    if str_eq_ignore_ascii_case name named.0 then Some named.1 else named_among later name

-- the function that has the name
abbrev pub function_named : List ℕ → Option Function
function_named name =
    option_or (named_among number_names name) (option_or (named_among truth_names name)
    (option_or (named_among text_names name) (named_among look_up_names name)))

-- one that takes any number of arguments but none
abbrev pub takes_any : Function → Bool
takes_any Sum = true
takes_any Min = true
takes_any Max = true
takes_any Count = true
takes_any CountA = true
takes_any If = false
takes_any And = true
takes_any Or = true
takes_any Not = false
takes_any Abs = false
takes_any Sign = false
takes_any Mod = false
takes_any Quotient = false
takes_any Len = false
takes_any Left = false
takes_any Right = false
takes_any Mid = false
takes_any Concatenate = true
takes_any Exact = false
takes_any Index = false
takes_any Match = false
takes_any CountIf = false
takes_any SumIf = false
takes_any Rows = false
takes_any Columns = false
takes_any IsBlank = false
takes_any IsNumber = false
takes_any IsText = false
takes_any IsError = false
takes_any IfError = false
