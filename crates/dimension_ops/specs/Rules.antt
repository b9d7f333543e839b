-- The message of a refusal (`message` of Google's API errors): the name of the rule that is broken, which is this
-- project's profile.
use Rattle.std.specs.Prelude.{ℕ, List, ◌++◌, codes, Result, Ok, Err, ⊤}
use Rattle.std.specs.Fmt.{decimal}
use Rattle.dimension_ops.specs.declared.rule.Limit.{Limit}
use Rattle.dimension_ops.specs.declared.rule.Limit.TheVariants as limit
use Rattle.dimension_ops.specs.declared.rule.Rule.{Rule}
use Rattle.dimension_ops.specs.declared.rule.Rule.TheVariants as rule
use Rattle.dimension_ops.specs.declared.rule.RuleOr.{RuleOr}
use Rattle.dimension_ops.specs.declared.rule.RuleOr.TheVariants as refusal

abbrev pub limit_word : Limit → List ℕ
limit_word limit.Books = codes "books"
limit_word limit.Sheets = codes "sheets"
limit_word limit.Rows = codes "rows"
limit_word limit.Columns = codes "columns"
limit_word limit.Cells = codes "cells"
limit_word limit.Filled = codes "filled"
limit_word limit.Formulas = codes "formulas"
limit_word limit.Tokens = codes "tokens"
limit_word limit.References = codes "references"
limit_word limit.Depth = codes "depth"
limit_word limit.Merges = codes "merges"
limit_word limit.Names = codes "names"
limit_word limit.Protections = codes "protections"
limit_word limit.Metadata = codes "metadata"

-- behind PastLimit stands the limit's word, and behind Protected the id of the protected range
abbrev pub rule_text : Rule → List ℕ
rule_text rule.BadShape = codes "BadShape"
rule_text rule.Unsupported = codes "Unsupported"
rule_text rule.BadNumber = codes "BadNumber"
rule_text rule.TextLong = codes "TextLong"
rule_text rule.NoSheet = codes "NoSheet"
rule_text rule.BadRange = codes "BadRange"
rule_text rule.OutsideGrid = codes "OutsideGrid"
rule_text rule.NoId = codes "NoId"
rule_text rule.IdTaken = codes "IdTaken"
rule_text rule.BadName = codes "BadName"
rule_text rule.NameTaken = codes "NameTaken"
rule_text rule.InheritAtZero = codes "InheritAtZero"
rule_text rule.LastLine = codes "LastLine"
rule_text rule.LastSheet = codes "LastSheet"
rule_text (rule.PastLimit limit) = codes "PastLimit " ++ limit_word limit
rule_text rule.ValuesPastRange = codes "ValuesPastRange"
rule_text rule.MergeCut = codes "MergeCut"
rule_text rule.BadLookup = codes "BadLookup"
rule_text (rule.Protected id) = codes "Protected " ++ decimal id
rule_text rule.NotEditor = codes "NotEditor"

abbrev pub refusal_text : RuleOr → List ℕ
refusal_text (refusal.Rule broken) = rule_text broken
refusal_text refusal.NoMemory = codes "NoMemory"

-- the answer is such a one, unless memory ran out
abbrev pub IsUnlessNoMemory : {A : Type 0} → (Result A Rule → Type 0) → Result A RuleOr → Type 0
IsUnlessNoMemory IsAnswer (Ok value) = IsAnswer (Ok value)
IsUnlessNoMemory IsAnswer (Err (refusal.Rule broken)) = IsAnswer (Err broken)
IsUnlessNoMemory IsAnswer (Err refusal.NoMemory) = ⊤
