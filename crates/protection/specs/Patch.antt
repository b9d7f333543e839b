-- What addProtectedRange and updateProtectedRange of the Google Sheets API v4 make of a protected
-- range: the members that they give, in the place of those that it has. Who asks for it is kept
-- among the editors, as the API keeps him.
use Rattle.std.specs.Prelude.{ℕ, Bool, true, false, not, ◌&&◌, ◌||◌, List, [], length, nat_lt, Option, None, Some, is_none, unwrap_or, if◌then◌else◌}
use Rattle.std.specs.Option.{option_map_or}
use Rattle.grid_range.specs.declared.band.Band.{Band}
use Rattle.grid_range.specs.declared.band.Band.TheVariants.{Whole, From, Span}
use Rattle.grid_range.specs.declared.area.Area.{Area}
use Rattle.protection.specs.declared.range.Protection.{Protection}
use Rattle.protection.specs.declared.range.ProtectionPatch.{ProtectionPatch}
use Rattle.protection.specs.Editors.{with_requester}

-- all lines, for good: no index was given
abbrev pub is_whole_band : Band → Bool
is_whole_band Whole = true
is_whole_band (From start) = false
is_whole_band (Span start end) = false

abbrev pub is_whole_sheet : Area → Bool
is_whole_sheet area = is_whole_band area.rows && is_whole_band area.cols

-- what the protection has after the patch; a warning has no editors, and only a whole sheet has
-- unprotected ranges
abbrev pub area_after : ProtectionPatch → Protection → Area
area_after patch old = unwrap_or patch.area old.area

abbrev pub warns_after : ProtectionPatch → Protection → Bool
warns_after patch old = unwrap_or patch.warning_only old.warning_only

abbrev pub gives_part : ProtectionPatch → Bool
gives_part patch = option_map_or (λ area. not (is_whole_sheet area)) patch.area false

abbrev pub unprotected_after : ProtectionPatch → Protection → List Area
unprotected_after patch old =
    if gives_part patch then [] else unwrap_or patch.unprotected old.unprotected

abbrev pub editors_after : List ℕ → List ℕ → ProtectionPatch → Protection → List (List ℕ)
editors_after user owner patch old =
    if warns_after patch old then []
    else with_requester user owner (unwrap_or patch.editors old.editors)

abbrev pub patched : List ℕ → List ℕ → ProtectionPatch → Protection → Protection
patched user owner patch old = record {
  id = old.id;
  area = area_after patch old;
  description = unwrap_or patch.description old.description;
  warning_only = warns_after patch old;
  unprotected = unprotected_after patch old;
  editors = editors_after user owner patch old;
}

-- a protection of which nothing is given yet
abbrev pub blank : ℕ → Protection
blank id = record {
  id = id;
  area = record { sheet = 0; rows = Whole; cols = Whole };
  description = [];
  warning_only = false;
  unprotected = [];
  editors = [];
}

-- the patch opens ranges of an area that isn't a whole sheet
abbrev pub opens_part : ProtectionPatch → Area → Bool
opens_part patch area =
    option_map_or (λ ranges. nat_lt 0 (length ranges)) patch.unprotected false
    && not (is_whole_sheet area)

-- it makes a warning one that keeps users off, and doesn't say who its editors are
abbrev pub lifts_warning : ProtectionPatch → Protection → Bool
lifts_warning patch old =
    old.warning_only && not (warns_after patch old) && is_none patch.editors

-- it has a bad shape for that protection, or for none
abbrev pub is_bad : ProtectionPatch → Option Protection → Bool
is_bad patch (Some old) = opens_part patch (area_after patch old) || lifts_warning patch old
is_bad patch None = option_map_or (opens_part patch) patch.area false
