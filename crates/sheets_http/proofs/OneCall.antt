-- At most one line of the table fits a request: its method, the number of its segments, the byte before the
-- last and the fifth segment tell which.
use Rattle.std.proofs.Common.{◌≡◌, ℕ, zero, suc, ◌+◌, ◌-◌, ◌<◌, ◌≤◌, ◌==◌, true, false, List, [], ◌∷◌, ◌++◌, length, take, get_or, codes, refl, sym, ap, ◌∙◌, arith, append-nil}
use Rattle.std.specs.Prelude.{if◌then◌else◌, count_by}
use Rattle.std.specs.Str.{bytes_eq}
use Rattle.std.proofs.lemmas.List.{length-append, get_or-append-add, take_at}
use Rattle.std.proofs.lemmas.List.Sums.{sum_by-append}
use Rattle.std.proofs.lemmas.List.Splits.{length-slice_split}
use Rattle.std.proofs.lemmas.Slice.Eq.{bytes_eq-Decides}
use Rattle.sheets_http.specs.declared.verb.Verb.{Verb}
use Rattle.sheets_http.specs.declared.verb.Verb.TheVariants.{Create, Get, Batch, Read, Write, Append, Clear, ReadMany, WriteMany, ClearMany, ReadFiltered, Item, Search}
use Rattle.sheets_http.specs.declared.table.Segment.{Segment}
use Rattle.sheets_http.specs.declared.table.Segment.TheVariants.{Root}
use Rattle.sheets_http.specs.Table.{line}
use Rattle.sheets_http.specs.Routes.{FitsSegment, FitSegments, slash, raw_segments, part, IsCall, HasOneCall}

-- ---- what the request tells

abbrev slashes : List ℕ → ℕ
slashes path = count_by (λ b. b == slash) path

abbrev byte_before_last : List ℕ → ℕ
byte_before_last path = get_or path (length path - 2) 0

as_many : (path : List Segment) (raws : List (List ℕ)) → FitSegments path raws → length raws ≡ length path
as_many [] [] fits = refl
as_many [] (raw ∷ raws) fits = absurd fits
as_many (segment ∷ path) [] fits = absurd fits
as_many (segment ∷ path) (raw ∷ raws) fits = ap suc (as_many path raws fits.1)

slashes_are : (verb : Verb) (before method path : List ℕ) → IsCall verb before method path
    → slashes (line verb).verb ≡ 0 → slashes path + 1 ≡ length (line verb).path
slashes_are verb before method path is none =
    let all : slashes path ≡ slashes before + slashes (line verb).verb =
    ap slashes is.path_is ∙ sum_by-append _ before (line verb).verb in
    omega (
      arith,
      all,
      none,
      length-slice_split (λ b. b == slash) before,
      as_many (line verb).path (raw_segments before) is.fits,
    )

byte_is : (before path verb : List ℕ) → path ≡ before ++ verb → 2 ≤ length verb
    → byte_before_last path ≡ get_or verb (length verb - 2) 0
byte_is before path verb e long =
    let place : length (before ++ verb) - 2 ≡ length before + (length verb - 2) =
    omega (arith, length-append before verb) in
    ap byte_before_last e ∙ ap (λ n. get_or (before ++ verb) n 0) place
    ∙ get_or-append-add before verb (length verb - 2) 0

fits_at : (path : List Segment) (raws : List (List ℕ)) (place : ℕ) → FitSegments path raws → place < length path
    → FitsSegment (get_or path place Root) (get_or raws place [])
fits_at [] [] place fits inside = absurd (omega (arith, inside))
fits_at [] (raw ∷ raws) place fits inside = absurd fits
fits_at (segment ∷ path) [] place fits inside = absurd fits
fits_at (segment ∷ path) (raw ∷ raws) zero fits inside = fits.0
fits_at (segment ∷ path) (raw ∷ raws) (suc place) fits inside = fits_at path raws place fits.1 (omega (arith, inside))

-- ---- which call it is

abbrev classify : List ℕ → List ℕ → Verb
classify method path =
    if bytes_eq method (codes "PUT") then Write
    else (if bytes_eq method (codes "GET") then (
    if slashes path == 3 then Get
    else (if slashes path == 4 then ReadMany
    else (if bytes_eq (part 4 (raw_segments path)) (codes "values") then Read else Item)))
    else (if slashes path == 2 then Create
    else (if slashes path == 3 then Batch
    else (if slashes path == 4 then (
    if byte_before_last path == 116 then WriteMany
    else (if byte_before_last path == 99 then Search
    else (if byte_before_last path == 97 then ClearMany else ReadFiltered)))
    else (if byte_before_last path == 110 then Append else Clear)))))

-- the path of a call without a verb is the part before it
whole : (before path : List ℕ) → path ≡ before ++ [] → path ≡ before
whole before path e = e ∙ append-nil before

classified : (verb : Verb) (before method path : List ℕ) → IsCall verb before method path → classify method path ≡ verb
classified Create before method path is =
    let count : slashes path ≡ 2 = omega (arith, slashes_are Create before method path is refl) in
    rw (is.method_is, count)
classified Get before method path is =
    let count : slashes path ≡ 3 = omega (arith, slashes_are Get before method path is refl) in
    rw (is.method_is, count)
classified Batch before method path is =
    let count : slashes path ≡ 3 = omega (arith, slashes_are Batch before method path is refl) in
    rw (is.method_is, count)
classified Read before method path is =
    let count : slashes path ≡ 5 = omega (arith, slashes_are Read before method path is refl) in
    let fifth : bytes_eq (part 4 (raw_segments path)) (codes "values") ≡ true =
    rw (whole before path is.path_is) (fits_at (line Read).path (raw_segments before) 4 is.fits (omega arith)).fits in
    rw (is.method_is, count, fifth)
classified Write before method path is = rw is.method_is
classified Append before method path is =
    let count : slashes path ≡ 5 = omega (arith, slashes_are Append before method path is refl) in
    let byte : byte_before_last path ≡ 110 = byte_is before path (line Append).verb is.path_is (omega arith) in
    rw (is.method_is, count, byte)
classified Clear before method path is =
    let count : slashes path ≡ 5 = omega (arith, slashes_are Clear before method path is refl) in
    let byte : byte_before_last path ≡ 97 = byte_is before path (line Clear).verb is.path_is (omega arith) in
    rw (is.method_is, count, byte)
classified ReadMany before method path is =
    let count : slashes path ≡ 4 = omega (arith, slashes_are ReadMany before method path is refl) in
    rw (is.method_is, count)
classified WriteMany before method path is =
    let count : slashes path ≡ 4 = omega (arith, slashes_are WriteMany before method path is refl) in
    let byte : byte_before_last path ≡ 116 = byte_is before path (line WriteMany).verb is.path_is (omega arith) in
    rw (is.method_is, count, byte)
classified ClearMany before method path is =
    let count : slashes path ≡ 4 = omega (arith, slashes_are ClearMany before method path is refl) in
    let byte : byte_before_last path ≡ 97 = byte_is before path (line ClearMany).verb is.path_is (omega arith) in
    rw (is.method_is, count, byte)
classified ReadFiltered before method path is =
    let count : slashes path ≡ 4 = omega (arith, slashes_are ReadFiltered before method path is refl) in
    let byte : byte_before_last path ≡ 101 = byte_is before path (line ReadFiltered).verb is.path_is (omega arith) in
    rw (is.method_is, count, byte)
classified Item before method path is =
    let count : slashes path ≡ 5 = omega (arith, slashes_are Item before method path is refl) in
    let found = (fits_at (line Item).path (raw_segments before) 4 is.fits (omega arith)).fits in
    let text : part 4 (raw_segments before) ≡ codes "developerMetadata" =
    (bytes_eq-Decides (part 4 (raw_segments before)) (codes "developerMetadata")).0 found in
    let other : bytes_eq (part 4 (raw_segments path)) (codes "values") ≡ false =
    rw (whole before path is.path_is, text) refl in
    rw (is.method_is, count, other)
classified Search before method path is =
    let count : slashes path ≡ 4 = omega (arith, slashes_are Search before method path is refl) in
    let byte : byte_before_last path ≡ 99 = byte_is before path (line Search).verb is.path_is (omega arith) in
    rw (is.method_is, count, byte)

-- what stands before the same text is the same
same_front : (before front text : List ℕ) → before ++ text ≡ front ++ text → before ≡ front
same_front before front text e =
    let size : length before ≡ length front =
    omega (arith, ap length e, length-append before text, length-append front text) in
    sym (take_at before text (length front) size) ∙ ap (take (length front)) e ∙ take_at front text (length front) refl

pub one_call : HasOneCall
one_call verb other before front method path is are =
    let same : verb ≡ other = sym (classified verb before method path is) ∙ classified other front method path are in (
      same,
      same_front before front (line other).verb
          (ap (λ (v : Verb). before ++ (line v).verb) (sym same) ∙ sym is.path_is ∙ are.path_is),
    )
