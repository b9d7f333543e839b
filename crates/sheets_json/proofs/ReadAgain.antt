-- What is written is read again.
use Rattle.std.proofs.Common.{◌≡◌, ◌≤◌, ℕ, List, [], ◌∷◌, map, true, cond, IsTrue, nat_le, Some, refl, ap, ◌∙◌}
use Rattle.std.specs.Prelude.{Ok, Err}
use Rattle.std.proofs.lemmas.Bool.{le-leb}
use Rattle.serde_json.specs.Data.{no_members}
use Rattle.serde_json.specs.View.{items_of}
use Rattle.grid_range.specs.declared.band.Band.{Band}
use Rattle.grid_range.specs.declared.band.Band.TheVariants.{Whole, From, Span}
use Rattle.grid_range.specs.declared.area.Area.{Area}
use Rattle.json_shapes.specs.declared.fault.ShapeFault.TheVariants.{BadShape}
use Rattle.json_requests.specs.declared.request.NewNamedRange.{NewNamedRange}
use Rattle.json_shapes.specs.Reading.{Reading, both, made}
use Rattle.json_shapes.specs.Members.{nothing_left, first_part, object_of}
use Rattle.json_shapes.specs.Scalars.{greatest_index}
use Rattle.json_shapes.specs.Shapes.{text, each, one_more}
use Rattle.json_requests.specs.Areas.{grid_range}
use Rattle.json_requests.specs.NamedRanges.{is_range_id, named_range_id, new_range_of}
use Rattle.sheets_json.specs.Written.{text_data}
use Rattle.sheets_json.specs.Areas.{area_data}
use Rattle.sheets_json.specs.Laws.{HasIndices, AreasAreReadAgain, NamedRangesAreReadAgain}

pub is_index : (n : ℕ) → n ≤ greatest_index → nat_le n greatest_index ≡ true
is_index n small = le-leb n greatest_index small

bands_again : (sheet : ℕ) (rows cols : Band) → nat_le sheet greatest_index ≡ true → HasIndices rows → HasIndices cols
    → object_of grid_range (area_data (record { sheet = sheet; rows = rows; cols = cols }))
    ≡ Ok (record { sheet = sheet; rows = rows; cols = cols })
bands_again sheet Whole Whole s r c = simp (s) refl
bands_again sheet Whole (From b) s r c = simp (s, is_index b c) refl
bands_again sheet Whole (Span b e) s r c = simp (s, is_index b c.0, is_index e c.1) refl
bands_again sheet (From a) Whole s r c = simp (s, is_index a r) refl
bands_again sheet (From a) (From b) s r c = simp (s, is_index a r, is_index b c) refl
bands_again sheet (From a) (Span b e) s r c = simp (s, is_index a r, is_index b c.0, is_index e c.1) refl
bands_again sheet (Span a d) Whole s r c = simp (s, is_index a r.0, is_index d r.1) refl
bands_again sheet (Span a d) (From b) s r c = simp (s, is_index a r.0, is_index d r.1, is_index b c) refl
bands_again sheet (Span a d) (Span b e) s r c =
    simp (s, is_index a r.0, is_index d r.1, is_index b c.0, is_index e c.1) refl

pub areas_again : AreasAreReadAgain
areas_again area indexed =
    bands_again area.sheet area.rows area.cols (is_index area.sheet indexed.sheet) indexed.rows indexed.cols

id_again : (id : List ℕ) → IsTrue (is_range_id id) → named_range_id (text_data id) ≡ Ok id
id_again id holds = ap (λ b. cond b (Ok id) (Err BadShape)) holds

-- what is read of the parts of a named range
abbrev read_of : List ℕ → Reading (List ℕ) → Reading Area → Reading NewNamedRange
read_of name id area =
    made first_part (both (made new_range_of (both (both (made Some id) (Ok name)) area)) (nothing_left no_members))

pub named_ranges_again : NamedRangesAreReadAgain
named_ranges_again named holds indexed =
    ap (λ id. read_of named.name id (object_of grid_range (area_data named.area))) (id_again named.id holds)
    ∙ ap (read_of named.name (Ok named.id)) (areas_again named.area indexed)

-- texts in a list
pub each_text_again : (texts : List (List ℕ)) → each text (items_of (map text_data texts)) ≡ Ok texts
each_text_again [] = refl
each_text_again (first ∷ texts) = ap (λ read. made one_more (both (Ok first) read)) (each_text_again texts)
