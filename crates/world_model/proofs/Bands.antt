-- The band that lines followed to is the one at the places that they followed to.
use Rattle.std.proofs.Common.{◌≡◌, ℕ, List, length, refl, sym, ap, subst}
use Rattle.std.specs.Prelude.{Option, None, Some}
use Rattle.std.specs.Option.{option_map}
use Rattle.grid_range.specs.Band.{Within}
use Rattle.grid_range.specs.Change.{Changes, Fits, order_change}
use Rattle.grid_range.specs.Following.{follow}
use Rattle.grid_range.specs.NameBand.{NameBand}
use Rattle.grid_range.specs.OrderChange.{changed_names}
use Rattle.grid_range.specs.Tracking.{StandsFor, StandsForOption, track_of}
use Rattle.grid_range.specs.TrackingLaws.{TracksAll}
use Rattle.grid_range.specs.declared.band.Band.{Band}
use Rattle.grid_range.specs.declared.band.Band.TheVariants.{Whole, From, Span}
use Rattle.grid_range.specs.declared.change.Change.{Change}
use Rattle.world_model.specs.Area.{band_named}

-- what stands at a band's places is what they name
named_at : (order : List ℕ) (band : Band) (names : NameBand) → StandsFor order band names
    → names ≡ band_named order band
named_at order Whole names stands = stands
named_at order (From start) names stands = stands.1
named_at order (Span start end) names stands = stands.2

named_if_left : (order : List ℕ) (band : Option Band) (names : Option NameBand) → StandsForOption order band names
    → names ≡ option_map (band_named order) band
named_if_left order None names stands = stands
named_if_left order (Some band) None stands = absurd stands
named_if_left order (Some band) (Some names) stands = ap Some (named_at order band names stands)

-- and that stands there
stands_at : (order : List ℕ) (band : Band) → Within band (length order) → StandsFor order band (band_named order band)
stands_at order Whole within = refl
stands_at order (From start) within = (within, refl)
stands_at order (Span start end) within = (within.0, within.1, refl)

pub band_follows : TracksAll → (order fresh after : List ℕ) (band : Band) (count : ℕ) (change : Change)
    → Fits change count → Changes change count order fresh after → Within band count
    → follow after (changed_names (order_change change fresh) order) (band_named order band)
    ≡ option_map (band_named after) (track_of band count change)
band_follows tracks order fresh after band count change fits changes within =
    named_if_left after (track_of band count change)
    (follow after (changed_names (order_change change fresh) order) (band_named order band))
    ((tracks band count change fits within).followed order fresh after (band_named order band) changes
    (stands_at order band (subst (Within band) (sym changes.long) within)))
