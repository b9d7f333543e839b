-- Entries of a map of named ranges by id, and the list of the ranges.
use Rattle.std.proofs.Common.{◌≡◌, ◌≢◌, ℕ, suc, zero, ◌<◌, Bool, true, false, not, cond, ◌&&◌, Option, None, Some, List, [], ◌∷◌, ◌++◌, All, IfSome, set, take, length, get_or, refl, sym, ap, ◌∙◌, subst, arith}
use Rattle.std.specs.Prelude.{filter, find, slice_get, is_some, ◌==◌}
use Rattle.std.specs.List.{filter_map, cons_option}
use Rattle.std.specs.Option.{option_map}
use Rattle.std.specs.Str.{bytes_eq, str_to_ascii_lowercase as lower_case}
use Rattle.std.specs.String.{string_bytes}
use Rattle.std.specs.Map.{lookup, remove_entry}
use Rattle.std.proofs.lemmas.Bool.{cond-true, cond-false, false≢true, false_from_ne_true, or_parts}
use Rattle.std.proofs.lemmas.Option.{get_or_from_slice_get, slice_get_within}
use Rattle.indexmap.specs.IndexMap.{set_value_at}
use Rattle.grid_range.specs.declared.area.Area.{Area}
use Rattle.named_ranges.specs.Given.{given_range}
use Rattle.std.proofs.lemmas.Slice.Eq.{bytes_eq-Decides}
use Rattle.std.proofs.lemmas.List.{map_push}
use Rattle.std.proofs.lemmas.List.Quantifiers.{all_pairs_push}
use Rattle.std.specs.declared.string.String.{String}
use Rattle.std.specs.declared.alloc.Global.{Global}
use Rattle.std.proofs.lemmas.List.Elements.{All-nil, All-cons, All-head, All-tail, All-push, All-weaker, All-set, All-filter}
use Rattle.std.proofs.lemmas.List.Kept.{AllPairs-cons, AllPairs-filter}
use Rattle.named_ranges.specs.declared.range.NamedRange.{NamedRange}
use Rattle.named_ranges.specs.Listed.{AreApart, AreNames, is_same_name, with_id, with_name, without_id, with_changed, is_name_of_other}
use Rattle.named_ranges.specs.Kept.{Entry, ranges_of, IsKept}
use Rattle.cell_value.specs.Entries.{entry_followed}
use Rattle.grid_range.specs.Tracking.{area_followed}
use Rattle.named_ranges.specs.Following.{range_followed, ranges_elsewhere}
use Rattle.grid_range.specs.declared.axis.Axis.{Axis}
use Rattle.grid_range.specs.declared.change.Change.{Change}

-- the entry stands under the id of its range
abbrev pub IsKeyed : Entry → Type 0
IsKeyed entry = string_bytes entry.0 ≡ entry.1.id

-- a look-up by id in the map is one in the list
pub lookup-with_id : (id : List ℕ) (entries : List Entry) → All IsKeyed entries
    → lookup (λ key. bytes_eq id (string_bytes key)) entries ≡ with_id id (ranges_of entries)
lookup-with_id id [] keyed = refl
lookup-with_id id (first ∷ rest) keyed =
    ap (λ bytes. cond (bytes_eq id bytes) (Some first.1) (lookup (λ key. bytes_eq id (string_bytes key)) rest))
    (All-head IsKeyed first rest keyed)
    ∙ ap (λ found. cond (bytes_eq id first.1.id) (Some first.1) found)
    (lookup-with_id id rest (All-tail IsKeyed first rest keyed))

-- the range at a place is that of the entry there
pub slice_get-ranges_of : (entries : List Entry) (i : ℕ)
    → slice_get (ranges_of entries) i ≡ option_map (λ entry. entry.1) (slice_get entries i)
slice_get-ranges_of [] i = refl
slice_get-ranges_of (first ∷ rest) zero = refl
slice_get-ranges_of (first ∷ rest) (suc i) = slice_get-ranges_of rest i

-- what `bytes_eq` tells
pub texts_same : (one other : List ℕ) → bytes_eq one other ≡ true → one ≡ other
texts_same one other told = (bytes_eq-Decides one other).0 told

pub texts_differ : (one other : List ℕ) → bytes_eq one other ≡ false → one ≢ other
texts_differ one other told same = false≢true (sym told ∙ (bytes_eq-Decides one other).1 same)

pub differing_texts : (one other : List ℕ) → one ≢ other → bytes_eq one other ≡ false
differing_texts one other differ =
    false_from_ne_true (bytes_eq one other) (λ told. differ (texts_same one other told))

-- a search that finds nothing was answered by nobody
none_passes : (test : NamedRange → Bool) (first : NamedRange) (found : Option NamedRange) (passes : Bool)
    → test first ≡ passes → cond passes (Some first) found ≡ None
    → (test first ≡ false) × (found ≡ None)
none_passes test first found true is none = cc
none_passes test first found false is none = (is, none)

pub find_none : (test : NamedRange → Bool) (ranges : List NamedRange) → find test ranges ≡ None
    → All (λ range. test range ≡ false) ranges
find_none test [] none = All-nil (λ range. test range ≡ false)
find_none test (first ∷ rest) none =
    let parts = none_passes test first (find test rest) (test first) refl none in
    All-cons (λ range. test range ≡ false) first rest parts.0 (find_none test rest parts.1)

-- one more at the end
pub IsKept-push : (entries : List Entry) (entry : Entry) → IsKept entries
    → string_bytes entry.0 ≡ entry.1.id → with_id entry.1.id (ranges_of entries) ≡ None
    → with_name entry.1.name (ranges_of entries) ≡ None → IsKept (entries ++ entry ∷ [])
IsKept-push entries entry kept key no_id no_name = record {
  keyed = All-push IsKeyed entries entry kept.keyed key;
  apart = subst (λ (ranges : List NamedRange). AreNames ranges)
      (sym (map_push (λ (entry : Entry). entry.1) entries entry))
      (all_pairs_push AreApart (ranges_of entries) entry.1 kept.apart
      (λ k d there. record {
        ids = λ same. texts_differ entry.1.id (get_or (ranges_of entries) k d).id
            (find_none (λ range. bytes_eq entry.1.id range.id) (ranges_of entries) no_id k d there) (sym same);
        names = λ same. texts_differ (lower_case entry.1.name) (lower_case (get_or (ranges_of entries) k d).name)
            (find_none (λ range. is_same_name entry.1.name range.name) (ranges_of entries) no_name k d there)
            (sym same);
      }));
}

-- one less
ranges_head : (first : NamedRange) (rest : List NamedRange) → AreNames (first ∷ rest)
    → All (AreApart first) rest
ranges_head first rest apart = λ k d there. apart 0 (suc k) d (omega arith) (omega arith)

ranges_tail : (first : NamedRange) (rest : List NamedRange) → AreNames (first ∷ rest) → AreNames rest
ranges_tail first rest apart = λ i j d less there. apart (suc i) (suc j) d (omega arith) (omega arith)

pub others_pass : (id : List ℕ) (ranges : List NamedRange) → All (λ range. id ≢ range.id) ranges
    → without_id id ranges ≡ ranges
others_pass id [] others = refl
others_pass id (first ∷ rest) others =
    cond-true (not (bytes_eq id first.id)) (first ∷ without_id id rest) (without_id id rest)
    (ap not (differing_texts id first.id (All-head (λ range. id ≢ range.id) first rest others)))
    ∙ ap (λ rest. first ∷ rest) (others_pass id rest (All-tail (λ range. id ≢ range.id) first rest others))

removed_first : (id : List ℕ) (first : Entry) (rest removed : List Entry) (same : Bool)
    → bytes_eq id first.1.id ≡ same → AreNames (ranges_of (first ∷ rest))
    → ranges_of removed ≡ without_id id (ranges_of rest)
    → ranges_of (cond same rest (first ∷ removed))
    ≡ cond (not same) (first.1 ∷ without_id id (ranges_of rest)) (without_id id (ranges_of rest))
removed_first id first rest removed true is apart next =
    let has : id ≡ first.1.id = texts_same id first.1.id is in
    sym (others_pass id (ranges_of rest)
    (All-weaker (AreApart first.1) (λ range. id ≢ range.id)
    (λ range apart same. apart.ids (sym has ∙ same)) (ranges_of rest)
    (ranges_head first.1 (ranges_of rest) apart)))
removed_first id first rest removed false is apart next = ap (λ rest. first.1 ∷ rest) next

pub ranges_of-remove_entry : (id : List ℕ) (entries : List Entry) → All IsKeyed entries
    → AreNames (ranges_of entries)
    → ranges_of (remove_entry (λ key. bytes_eq id (string_bytes key)) entries)
    ≡ without_id id (ranges_of entries)
ranges_of-remove_entry id [] keyed apart = refl
ranges_of-remove_entry id (first ∷ rest) keyed apart =
    let key : string_bytes first.0 ≡ first.1.id = All-head IsKeyed first rest keyed in
    ap (λ bytes. ranges_of (cond (bytes_eq id bytes) rest
    (first ∷ remove_entry (λ key. bytes_eq id (string_bytes key)) rest))) key
    ∙ removed_first id first rest (remove_entry (λ key. bytes_eq id (string_bytes key)) rest)
    (bytes_eq id first.1.id) refl apart
    (ranges_of-remove_entry id rest (All-tail IsKeyed first rest keyed)
    (ranges_tail first.1 (ranges_of rest) apart))

kept_first : (first : Entry) (rest removed : List Entry) (same : Bool) → IsKeyed first → All IsKeyed rest
    → All IsKeyed removed → All IsKeyed (cond same rest (first ∷ removed))
kept_first first rest removed true key all next = all
kept_first first rest removed false key all next = All-cons IsKeyed first removed key next

keyed-remove_entry : (test : String Global → Bool) (entries : List Entry) → All IsKeyed entries
    → All IsKeyed (remove_entry test entries)
keyed-remove_entry test [] keyed = keyed
keyed-remove_entry test (first ∷ rest) keyed =
    kept_first first rest (remove_entry test rest) (test first.0) (All-head IsKeyed first rest keyed)
    (All-tail IsKeyed first rest keyed) (keyed-remove_entry test rest (All-tail IsKeyed first rest keyed))

pub IsKept-remove_entry : (id : List ℕ) (entries : List Entry) → IsKept entries
    → IsKept (remove_entry (λ key. bytes_eq id (string_bytes key)) entries)
IsKept-remove_entry id entries kept = record {
  keyed = keyed-remove_entry (λ key. bytes_eq id (string_bytes key)) entries kept.keyed;
  apart = subst (λ (ranges : List NamedRange). AreNames ranges)
      (sym (ranges_of-remove_entry id entries kept.keyed kept.apart))
      (AllPairs-filter AreApart (λ range. not (bytes_eq id range.id)) (ranges_of entries) kept.apart);
}

-- the entry at a place where a range was read
pub entry_at : (entries : List Entry) (i : ℕ) (range : NamedRange)
    → slice_get (ranges_of entries) i ≡ Some range
    → (entry : Entry) × (entry ≡ get_or entries i entry) × (entry.1 ≡ range)
entry_at [] i range read = cc
entry_at (first ∷ rest) zero range read = (first, refl, cc)
entry_at (first ∷ rest) (suc i) range read = entry_at rest i range read

-- a write of the range at a place
pub ranges_of-set_value_at : (entries : List Entry) (i : ℕ) (range : NamedRange)
    → ranges_of (set_value_at entries i range) ≡ set (ranges_of entries) i range
ranges_of-set_value_at [] i range = refl
ranges_of-set_value_at (first ∷ rest) zero range = refl
ranges_of-set_value_at (first ∷ rest) (suc i) range =
    ap (λ rest. first.1 ∷ rest) (ranges_of-set_value_at rest i range)

pub set_value_at-set : (entries : List Entry) (i : ℕ) (entry : Entry) (range : NamedRange)
    → i < length entries → entry ≡ get_or entries i entry
    → set_value_at entries i range ≡ set entries i (entry.0, range)
set_value_at-set [] i entry range there read = refl
set_value_at-set (first ∷ rest) zero entry range there read =
    ap (λ (one : Entry). (one.0, range) ∷ rest) (sym read)
set_value_at-set (first ∷ rest) (suc i) entry range there read =
    ap (λ rest. first ∷ rest) (set_value_at-set rest i entry range (omega arith) read)

keyed-set_value_at : (entries : List Entry) (i : ℕ) (old range : NamedRange)
    → slice_get (ranges_of entries) i ≡ Some old → range.id ≡ old.id → All IsKeyed entries
    → All IsKeyed (set_value_at entries i range)
keyed-set_value_at [] i old range read same keyed = keyed
keyed-set_value_at (first ∷ rest) zero old range read same keyed =
    let is : first.1 ≡ old = cc in
    All-cons IsKeyed (first.0, range) rest
    (All-head IsKeyed first rest keyed ∙ ap (λ (range : NamedRange). range.id) is ∙ sym same)
    (All-tail IsKeyed first rest keyed)
keyed-set_value_at (first ∷ rest) (suc i) old range read same keyed =
    All-cons IsKeyed first (set_value_at rest i range) (All-head IsKeyed first rest keyed)
    (keyed-set_value_at rest i old range read same (All-tail IsKeyed first rest keyed))

-- the first range of a list is apart from one behind it
apart_from_later : (first : NamedRange) (rest : List NamedRange) (i : ℕ) (range : NamedRange)
    → AreNames (first ∷ rest) → slice_get rest i ≡ Some range → AreApart first range
apart_from_later first rest i range apart read =
    subst (λ (other : NamedRange). AreApart first other) (get_or_from_slice_get rest i range first read)
    (ranges_head first rest apart i first (slice_get_within rest i range read))

-- those of other ids have other names than the range at a place
names_apart : (ranges : List NamedRange) (i : ℕ) (range : NamedRange) → AreNames ranges
    → slice_get ranges i ≡ Some range
    → All (λ other. other.id ≢ range.id → lower_case range.name ≢ lower_case other.name) ranges
names_apart [] i range apart read = cc
names_apart (first ∷ rest) zero range apart read =
    let is : first ≡ range = cc in
    All-cons (λ other. other.id ≢ range.id → lower_case range.name ≢ lower_case other.name) first rest
    (λ differ same. differ (ap (λ (one : NamedRange). one.id) is))
    (All-weaker (AreApart first)
    (λ other. other.id ≢ range.id → lower_case range.name ≢ lower_case other.name)
    (λ other apart differ same. apart.names (ap (λ (one : NamedRange). lower_case one.name) is ∙ same))
    rest (ranges_head first rest apart))
names_apart (first ∷ rest) (suc i) range apart read =
    All-cons (λ other. other.id ≢ range.id → lower_case range.name ≢ lower_case other.name) first rest
    (λ differ same. (apart_from_later first rest i range apart read).names (sym same))
    (names_apart rest i range (ranges_tail first rest apart) read)

-- nor the name that no other has
free_test : (same own : Bool) → (same && not own) ≡ false → own ≡ false → same ≡ false
free_test true true free other = cc
free_test true false free other = free
free_test false own free other = refl

free_name : (name id : List ℕ) (ranges : List NamedRange) → is_name_of_other name id ranges ≡ false
    → All (λ other. other.id ≢ id → lower_case name ≢ lower_case other.name) ranges
free_name name id [] free = All-nil (λ other. other.id ≢ id → lower_case name ≢ lower_case other.name)
free_name name id (first ∷ rest) free =
    let parts = or_parts (is_same_name name first.name && not (bytes_eq id first.id))
    (is_name_of_other name id rest) free in
    All-cons (λ other. other.id ≢ id → lower_case name ≢ lower_case other.name) first rest
    (λ differ. texts_differ (lower_case name) (lower_case first.name)
    (free_test (is_same_name name first.name) (bytes_eq id first.id) parts.0
    (differing_texts id first.id (λ same. differ (sym same)))))
    (free_name name id rest parts.1)

apart_set : (ranges : List NamedRange) (i : ℕ) (old range : NamedRange) → AreNames ranges
    → slice_get ranges i ≡ Some old → range.id ≡ old.id
    → All (λ other. other.id ≢ old.id → lower_case range.name ≢ lower_case other.name) ranges
    → AreNames (set ranges i range)
apart_set [] i old range apart read same free = apart
apart_set (first ∷ rest) zero old range apart read same free =
    let is : first ≡ old = cc in
    let id_is : range.id ≡ first.id = same ∙ ap (λ (one : NamedRange). one.id) (sym is) in
    AllPairs-cons AreApart range rest
    (λ k d there. record {
      ids = λ equal. (ranges_head first rest apart k d there).ids (sym id_is ∙ equal);
      names = free (suc k) d (omega arith)
          (λ equal. (ranges_head first rest apart k d there).ids (sym id_is ∙ same ∙ sym equal));
    })
    (ranges_tail first rest apart)
apart_set (first ∷ rest) (suc i) old range apart read same free =
    let later = apart_from_later first rest i old apart read in
    AllPairs-cons AreApart first (set rest i range)
    (All-set (AreApart first) rest i range
    (record {
      ids = λ equal. later.ids (equal ∙ same);
      names = λ equal. free 0 first (omega arith) later.ids (sym equal);
    })
    (ranges_head first rest apart))
    (apart_set rest i old range (ranges_tail first rest apart) read same
    (All-tail (λ other. other.id ≢ old.id → lower_case range.name ≢ lower_case other.name) first rest free))

free_given : (ranges : List NamedRange) (i : ℕ) (old : NamedRange) (id : List ℕ)
    (name : Option (List ℕ)) (area : Option Area) → AreNames ranges → slice_get ranges i ≡ Some old
    → id ≡ old.id → IfSome name (λ name. is_name_of_other name id ranges ≡ false)
    → All (λ other. other.id ≢ old.id
    → lower_case (given_range name area old).name ≢ lower_case other.name) ranges
free_given ranges i old id None area apart read is free = names_apart ranges i old apart read
free_given ranges i old id (Some name) area apart read is free =
    subst (λ (id : List ℕ). All (λ other. other.id ≢ id → lower_case name ≢ lower_case other.name) ranges) is
    (free_name name id ranges free)

pub IsKept-given : (entries : List Entry) (i : ℕ) (old : NamedRange) (id : List ℕ)
    (name : Option (List ℕ)) (area : Option Area) → IsKept entries
    → slice_get (ranges_of entries) i ≡ Some old → id ≡ old.id
    → IfSome name (λ name. is_name_of_other name id (ranges_of entries) ≡ false)
    → IsKept (set_value_at entries i (given_range name area old))
IsKept-given entries i old id name area kept read is free = record {
  keyed = keyed-set_value_at entries i old (given_range name area old) read refl kept.keyed;
  apart = subst (λ (ranges : List NamedRange). AreNames ranges)
      (sym (ranges_of-set_value_at entries i (given_range name area old)))
      (apart_set (ranges_of entries) i old (given_range name area old) kept.apart read refl
      (free_given (ranges_of entries) i old id name area kept.apart read is free));
}

-- one changed
pub others_stay : (id : List ℕ) (changed : NamedRange → NamedRange) (ranges : List NamedRange)
    → All (λ range. id ≢ range.id) ranges → with_changed id changed ranges ≡ ranges
others_stay id changed [] others = refl
others_stay id changed (first ∷ rest) others =
    ap (λ one. one ∷ with_changed id changed rest)
    (cond-false (bytes_eq id first.id) (changed first) first
    (differing_texts id first.id (All-head (λ range. id ≢ range.id) first rest others)))
    ∙ ap (λ rest. first ∷ rest)
    (others_stay id changed rest (All-tail (λ range. id ≢ range.id) first rest others))

pub with_changed_at : (id : List ℕ) (changed : NamedRange → NamedRange) (ranges : List NamedRange) (i : ℕ)
    (old : NamedRange) → AreNames ranges → slice_get ranges i ≡ Some old → id ≡ old.id
    → set ranges i (changed old) ≡ with_changed id changed ranges
with_changed_at id changed [] i old apart read is = cc
with_changed_at id changed (first ∷ rest) zero old apart read is =
    let same : old ≡ first = cc in
    let has : id ≡ first.id = is ∙ ap (λ (one : NamedRange). one.id) same in
    ap (λ one. changed one ∷ rest) same
    ∙ ap (λ one. one ∷ rest)
    (sym (cond-true (bytes_eq id first.id) (changed first) first ((bytes_eq-Decides id first.id).1 has)))
    ∙ ap (λ rest. cond (bytes_eq id first.id) (changed first) first ∷ rest)
    (sym (others_stay id changed rest
    (All-weaker (AreApart first) (λ range. id ≢ range.id)
    (λ range apart equal. apart.ids (sym has ∙ equal)) rest (ranges_head first rest apart))))
with_changed_at id changed (first ∷ rest) (suc i) old apart read is =
    ap (λ rest. first ∷ rest)
    (with_changed_at id changed rest i old (ranges_tail first rest apart) read is)
    ∙ ap (λ one. one ∷ with_changed id changed rest)
    (sym (cond-false (bytes_eq id first.id) (changed first) first
    (differing_texts id first.id
    (λ same. (apart_from_later first rest i old apart read).ids (sym same ∙ is)))))

-- the one that a look-up finds has the id
find_has : (id : List ℕ) (first : NamedRange) (found : Option NamedRange) (range : NamedRange) (same : Bool)
    → bytes_eq id first.id ≡ same → cond same (Some first) found ≡ Some range
    → (found ≡ Some range → id ≡ range.id) → id ≡ range.id
find_has id first found range true told some rest =
    let is : first ≡ range = cc in
    texts_same id first.id told ∙ ap (λ (one : NamedRange). one.id) is
find_has id first found range false told some rest = rest some

pub with_id_has : (id : List ℕ) (ranges : List NamedRange) (range : NamedRange)
    → with_id id ranges ≡ Some range → id ≡ range.id
with_id_has id [] range some = cc
with_id_has id (first ∷ rest) range some =
    find_has id first (with_id id rest) range (bytes_eq id first.id) refl some (with_id_has id rest range)

pub unlisted : (id : List ℕ) (changed : NamedRange → NamedRange) (ranges : List NamedRange)
    → with_id id ranges ≡ None → with_changed id changed ranges ≡ ranges
unlisted id changed ranges none =
    others_stay id changed ranges
    (All-weaker (λ range. bytes_eq id range.id ≡ false) (λ range. id ≢ range.id)
    (λ range told. texts_differ id range.id told) ranges
    (find_none (λ range. bytes_eq id range.id) ranges none))

pub none_of : {X : Type 0} (found : Option X) → false ≡ is_some found → found ≡ None
none_of None told = refl
none_of (Some one) told = absurd (false≢true told)

-- a range that follows, with its entry
range_of-followed : (sheet : ℕ) (axis : Axis) (count : ℕ) (change : Change) (first : Entry)
    (rest : List Entry) (after : Option NamedRange)
    → ranges_of (cons_option (option_map (λ range. (first.0, range)) after) rest)
    ≡ cons_option after (ranges_of rest)
range_of-followed sheet axis count change first rest None = refl
range_of-followed sheet axis count change first rest (Some range) = refl

pub ranges_of-followed : (sheet : ℕ) (axis : Axis) (count : ℕ) (change : Change) (entries : List Entry)
    → ranges_of (filter_map (entry_followed (range_followed sheet axis count change)) entries)
    ≡ filter_map (range_followed sheet axis count change) (ranges_of entries)
ranges_of-followed sheet axis count change [] = refl
ranges_of-followed sheet axis count change (first ∷ rest) =
    range_of-followed sheet axis count change first
    (filter_map (entry_followed (range_followed sheet axis count change)) rest)
    (range_followed sheet axis count change first.1)
    ∙ ap (cons_option (range_followed sheet axis count change first.1))
    (ranges_of-followed sheet axis count change rest)

-- its id and its name stay
followed_names : (one other : NamedRange) (area : Option Area)
    → option_map (λ area. record one { area = area }) area ≡ Some other
    → (other.id ≡ one.id) × (other.name ≡ one.name)
followed_names one other None is = cc
followed_names one other (Some area) is = (cc, cc)

abbrev pub KeepsNames : (NamedRange → Option NamedRange) → Type 0
KeepsNames becomes =
    (one other : NamedRange) → becomes one ≡ Some other → (other.id ≡ one.id) × (other.name ≡ one.name)

pub KeepsNames-followed : (sheet : ℕ) (axis : Axis) (count : ℕ) (change : Change)
    → KeepsNames (range_followed sheet axis count change)
KeepsNames-followed sheet axis count change one other is =
    followed_names one other (area_followed sheet axis count change one.area) is

apart_kept : (first one other : NamedRange) → AreApart first one
    → (other.id ≡ one.id) × (other.name ≡ one.name) → AreApart first other
apart_kept first one other apart same = record {
  ids = λ equal. apart.ids (equal ∙ same.0);
  names = λ equal. apart.names (equal ∙ ap lower_case same.1);
}

apart_front : (first other : NamedRange) (rest : List NamedRange)
    → (other.id ≡ first.id) × (other.name ≡ first.name) → All (AreApart first) rest
    → All (AreApart other) rest
apart_front first other rest same apart =
    All-weaker (AreApart first) (AreApart other)
    (λ one apart. record {
      ids = λ equal. apart.ids (sym same.0 ∙ equal);
      names = λ equal. apart.names (sym (ap lower_case same.1) ∙ equal);
    }) rest apart

apart_option : (becomes : NamedRange → Option NamedRange) (first one : NamedRange)
    (after : Option NamedRange) (rest : List NamedRange) → KeepsNames becomes → becomes one ≡ after
    → AreApart first one → All (AreApart first) rest → All (AreApart first) (cons_option after rest)
apart_option becomes first one None rest keeps is apart all = all
apart_option becomes first one (Some other) rest keeps is apart all =
    All-cons (AreApart first) other rest (apart_kept first one other apart (keeps one other is)) all

apart_filter_map : (becomes : NamedRange → Option NamedRange) (first : NamedRange)
    (ranges : List NamedRange) → KeepsNames becomes → All (AreApart first) ranges
    → All (AreApart first) (filter_map becomes ranges)
apart_filter_map becomes first [] keeps all = All-nil (AreApart first)
apart_filter_map becomes first (one ∷ rest) keeps all =
    apart_option becomes first one (becomes one) (filter_map becomes rest) keeps refl
    (All-head (AreApart first) one rest all)
    (apart_filter_map becomes first rest keeps (All-tail (AreApart first) one rest all))

names_option : (becomes : NamedRange → Option NamedRange) (one : NamedRange)
    (after : Option NamedRange) (rest : List NamedRange) → KeepsNames becomes → becomes one ≡ after
    → All (AreApart one) rest → AreNames rest → AreNames (cons_option after rest)
names_option becomes one None rest keeps is apart names = names
names_option becomes one (Some other) rest keeps is apart names =
    AllPairs-cons AreApart other rest (apart_front one other rest (keeps one other is) apart) names

names_filter_map : (becomes : NamedRange → Option NamedRange) (ranges : List NamedRange)
    → KeepsNames becomes → AreNames ranges → AreNames (filter_map becomes ranges)
names_filter_map becomes [] keeps names = names
names_filter_map becomes (one ∷ rest) keeps names =
    names_option becomes one (becomes one) (filter_map becomes rest) keeps refl
    (apart_filter_map becomes one rest keeps (ranges_head one rest names))
    (names_filter_map becomes rest keeps (ranges_tail one rest names))

keyed_option : (sheet : ℕ) (axis : Axis) (count : ℕ) (change : Change) (first : Entry)
    (rest : List Entry) (after : Option NamedRange) → range_followed sheet axis count change first.1 ≡ after
    → IsKeyed first → All IsKeyed rest
    → All IsKeyed (cons_option (option_map (λ range. (first.0, range)) after) rest)
keyed_option sheet axis count change first rest None is key keyed = keyed
keyed_option sheet axis count change first rest (Some range) is key keyed =
    All-cons IsKeyed (first.0, range) rest
    (key ∙ sym (KeepsNames-followed sheet axis count change first.1 range is).0) keyed

keyed-followed : (sheet : ℕ) (axis : Axis) (count : ℕ) (change : Change) (entries : List Entry)
    → All IsKeyed entries → All IsKeyed (filter_map (entry_followed (range_followed sheet axis count change)) entries)
keyed-followed sheet axis count change [] keyed = keyed
keyed-followed sheet axis count change (first ∷ rest) keyed =
    keyed_option sheet axis count change first
    (filter_map (entry_followed (range_followed sheet axis count change)) rest)
    (range_followed sheet axis count change first.1) refl (All-head IsKeyed first rest keyed)
    (keyed-followed sheet axis count change rest (All-tail IsKeyed first rest keyed))

pub IsKept-followed : (sheet : ℕ) (axis : Axis) (count : ℕ) (change : Change) (entries : List Entry)
    → IsKept entries → IsKept (filter_map (entry_followed (range_followed sheet axis count change)) entries)
IsKept-followed sheet axis count change entries kept = record {
  keyed = keyed-followed sheet axis count change entries kept.keyed;
  apart = subst (λ (ranges : List NamedRange). AreNames ranges)
      (sym (ranges_of-followed sheet axis count change entries))
      (names_filter_map (range_followed sheet axis count change) (ranges_of entries)
      (KeepsNames-followed sheet axis count change) kept.apart);
}

-- those of other sheets
range_of-elsewhere : (first : Entry) (rest : List Entry) (stays : Bool)
    → ranges_of (cond stays (first ∷ rest) rest)
    ≡ cond stays (first.1 ∷ ranges_of rest) (ranges_of rest)
range_of-elsewhere first rest true = refl
range_of-elsewhere first rest false = refl

pub ranges_of-elsewhere : (sheet : ℕ) (entries : List Entry)
    → ranges_of (filter (λ entry. not (entry.1.area.sheet == sheet)) entries)
    ≡ ranges_elsewhere sheet (ranges_of entries)
ranges_of-elsewhere sheet [] = refl
ranges_of-elsewhere sheet (first ∷ rest) =
    range_of-elsewhere first (filter (λ entry. not (entry.1.area.sheet == sheet)) rest)
    (not (first.1.area.sheet == sheet))
    ∙ ap (λ rest. cond (not (first.1.area.sheet == sheet)) (first.1 ∷ rest) rest)
    (ranges_of-elsewhere sheet rest)

pub IsKept-elsewhere : (sheet : ℕ) (entries : List Entry) → IsKept entries
    → IsKept (filter (λ entry. not (entry.1.area.sheet == sheet)) entries)
IsKept-elsewhere sheet entries kept = record {
  keyed = All-filter (λ (entry : Entry). not (entry.1.area.sheet == sheet)) IsKeyed entries kept.keyed;
  apart = subst (λ (ranges : List NamedRange). AreNames ranges)
      (sym (ranges_of-elsewhere sheet entries))
      (AllPairs-filter AreApart (λ range. not (range.area.sheet == sheet)) (ranges_of entries) kept.apart);
}

-- a range at a place has neither the id nor the name of one before it
pub new_id_before : (ranges : List NamedRange) (i : ℕ) (range : NamedRange) → AreNames ranges
    → slice_get ranges i ≡ Some range → with_id range.id (take i ranges) ≡ None
new_id_before [] i range names read = cc
new_id_before (first ∷ rest) zero range names read = refl
new_id_before (first ∷ rest) (suc i) range names read =
    cond-false (bytes_eq range.id first.id) (Some first) (with_id range.id (take i rest))
    (differing_texts range.id first.id
    (λ same. (apart_from_later first rest i range names read).ids (sym same)))
    ∙ new_id_before rest i range (ranges_tail first rest names) read

pub new_name_before : (ranges : List NamedRange) (i : ℕ) (range : NamedRange) → AreNames ranges
    → slice_get ranges i ≡ Some range → with_name range.name (take i ranges) ≡ None
new_name_before [] i range names read = cc
new_name_before (first ∷ rest) zero range names read = refl
new_name_before (first ∷ rest) (suc i) range names read =
    cond-false (is_same_name range.name first.name) (Some first) (with_name range.name (take i rest))
    (differing_texts (lower_case range.name) (lower_case first.name)
    (λ same. (apart_from_later first rest i range names read).names (sym same)))
    ∙ new_name_before rest i range (ranges_tail first rest names) read
