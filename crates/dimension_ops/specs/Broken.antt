-- Which rule a request breaks: a kind of request says of each rule whether the request breaks it, and the order in
-- which rules are tried stands here alone.
use Rattle.std.specs.Prelude.{ℕ, Bool, false, List, [], ◌∷◌, Option, None, Some, Result, Ok, Err, if◌then◌else◌}
use Rattle.std.specs.Option.{option_map_or}
use Rattle.dimension_ops.specs.declared.rule.Limit.{Limit}
use Rattle.dimension_ops.specs.declared.rule.Limit.TheVariants as limit
use Rattle.dimension_ops.specs.declared.rule.Rule.{Rule}
use Rattle.dimension_ops.specs.declared.rule.Rule.TheVariants as rule

-- of each rule whether it is broken; of a limit which one would be passed, and of protected ranges which one denies
pub record Broken : Type 0 where
  pub bad_shape : Bool
  pub no_sheet : Bool
  pub bad_range : Bool
  pub outside_grid : Bool
  pub no_id : Bool
  pub id_taken : Bool
  pub bad_name : Bool
  pub name_taken : Bool
  pub inherit_at_zero : Bool
  pub last_line : Bool
  pub last_sheet : Bool
  pub past_limit : Option Limit
  pub values_past_range : Bool
  pub merge_cut : Bool
  pub bad_lookup : Bool
  pub protected : Option ℕ
  pub not_editor : Bool

abbrev pub unbroken : Broken
unbroken = record {
  bad_shape = false;
  no_sheet = false;
  bad_range = false;
  outside_grid = false;
  no_id = false;
  id_taken = false;
  bad_name = false;
  name_taken = false;
  inherit_at_zero = false;
  last_line = false;
  last_sheet = false;
  past_limit = None;
  values_past_range = false;
  merge_cut = false;
  bad_lookup = false;
  protected = None;
  not_editor = false;
}

-- the rules that stand behind a sheet's last one
abbrev pub broken_behind : Broken → Option Rule
broken_behind broken =
    if broken.values_past_range then Some rule.ValuesPastRange
    else if broken.merge_cut then Some rule.MergeCut
    else if broken.bad_lookup then Some rule.BadLookup
    else option_map_or (λ id. Some (rule.Protected id))
    broken.protected (if broken.not_editor then Some rule.NotEditor else None)

-- the first rule that is broken, in the order in which they are tried. A shape that is broken whatever the spreadsheet
-- holds is found when the request is read; the one here is a shape that what it holds makes a bad one
abbrev pub first_broken : Broken → Option Rule
first_broken broken =
    if broken.bad_shape then Some rule.BadShape
    else if broken.no_sheet then Some rule.NoSheet
    else if broken.bad_range then Some rule.BadRange
    else if broken.outside_grid then Some rule.OutsideGrid
    else if broken.no_id then Some rule.NoId
    else if broken.id_taken then Some rule.IdTaken
    else if broken.bad_name then Some rule.BadName
    else if broken.name_taken then Some rule.NameTaken
    else if broken.inherit_at_zero then Some rule.InheritAtZero
    else if broken.last_line then Some rule.LastLine
    else if broken.last_sheet then Some rule.LastSheet
    else option_map_or (λ passed. Some (rule.PastLimit passed)) broken.past_limit (broken_behind broken)

-- what is told of a request that breaks those rules, or else that; where something can be told only of one that breaks
-- none, `first_broken` is asked itself
abbrev pub judged_by : {A : Type 0} → Broken → A → Result A Rule
judged_by broken told = option_map_or Err (first_broken broken) (Ok told)

-- ---- limits

-- of each limit whether it would be passed
abbrev pub Passes : Type 0
Passes = Limit → Bool

-- the first of the limits that would be passed
abbrev pub first_of : List Limit → Passes → Option Limit
first_of [] passes = None
first_of (one ∷ others) passes = if passes one then Some one else first_of others passes

-- in the order in which they are tried
abbrev pub first_passed : Passes → Option Limit
first_passed = first_of (
    limit.Books ∷ limit.Sheets ∷ limit.Rows ∷ limit.Columns ∷ limit.Cells ∷ limit.Filled ∷ limit.Formulas ∷ limit.Tokens
    ∷ limit.References ∷ limit.Depth ∷ limit.Merges ∷ limit.Names ∷ limit.Protections ∷ limit.Metadata ∷ [])
