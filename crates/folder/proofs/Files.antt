-- What stands under the names of a list of files.
use Rattle.std.proofs.Common.{◌≡◌, ℕ, ◌<◌, ◌≤◌, Bor, List, [], ◌∷◌, ◌++◌, length, get_or, set, cond, Bool, true, false}
use Rattle.std.proofs.Common.{refl, sym, ap, subst, ◌∙◌, Some}
use Rattle.std.specs.Prelude.{Option, None, is_some, is_none, not, ltb, All}
use Rattle.std.specs.List.{find, position_or_len}
use Rattle.std.specs.Option.{option_map, option_or, option_copied}
use Rattle.std.specs.Str.{bytes_eq}
use Rattle.std.proofs.Math.Path.{fun_ext}
use Rattle.std.proofs.lemmas.Bool.{false≢true, ltb-true, ltb-false}
use Rattle.std.proofs.lemmas.List.Elements.{All-nil, All-cons, All-head, All-tail}
use Rattle.std.proofs.lemmas.List.Folds.{find_at, find-set, find_past, find-append}
use Rattle.std.proofs.lemmas.List.Sums.{passes_at_first}
use Rattle.std.proofs.lemmas.Option.{slice_get_past}
use Rattle.std.proofs.lemmas.Slice.Eq.{bytes_eq-Decides}
use Rattle.folder.specs.Folder.{with_file, found_or_made}
use Rattle.folder.specs.Memory.{bytes_under, IsThere, place_in}

abbrev File : Type 0
File = List ℕ × List ℕ

-- the file has that name
abbrev pub is_named : List ℕ → File → Bool
is_named name file = bytes_eq file.0 name

-- equal names are found to be
pub same_name : (a b : List ℕ) → a ≡ b → bytes_eq a b ≡ true
same_name a b same = (bytes_eq-Decides a b).1 same

-- a place that is found is the first one, and in the list
pub first_place : (files : List File) (name : List ℕ) (place : ℕ) → Some place ≡ place_in files name
    → (place ≡ position_or_len (is_named name) files) × (place < length files)
first_place files name place is =
    by (position_or_len (is_named name) files) (length files)
    (ltb (position_or_len (is_named name) files) (length files)) refl is
  where
    by : (first count : ℕ) (b : Bool) → ltb first count ≡ b → Some place ≡ cond b (Some first) None
        → (place ≡ first) × (place < count)
    by first count true lt e =
        let one : place ≡ first = cc in
        (one, subst (λ n. n < count) (sym one) (ltb-true first count lt))
    by first count false lt e = absurd cc

-- where none is found there is none in the list
pub no_place : (files : List File) (name : List ℕ) (found : Option ℕ) → found ≡ place_in files name
    → ((place : ℕ) → found ≡ Some place → ⊥) → length files ≤ position_or_len (is_named name) files
no_place files name found is none =
    by (position_or_len (is_named name) files) (length files)
    (ltb (position_or_len (is_named name) files) (length files)) refl is
  where
    by : (first count : ℕ) (b : Bool) → ltb first count ≡ b → found ≡ cond b (Some first) None → count ≤ first
    by first count true lt e = absurd (none first e)
    by first count false lt e = ltb-false first count lt

module _ (files : List File) (name : List ℕ) where
  -- the first place of a name that is there is one of the list's
  pub is_within : IsThere files name → length files ≤ position_or_len (is_named name) files → ⊥
  is_within some past =
      let none = find_at (is_named name) files ∙ slice_get_past files (position_or_len (is_named name) files) past in
      let gone = ap (λ (file : Option File). is_some (option_map (λ (f : File). f.1) file)) none in
      false≢true (sym gone ∙ some)

  -- the first file of the name gets other bytes
  pub put_is : (place : ℕ) (file : File) (bytes : List ℕ) → place ≡ position_or_len (is_named name) files
      → place < length files → file ≡ get_or files place file
      → bytes_under (set files place (file.0, bytes)) ≡ with_file name (Some bytes) (bytes_under files)
  put_is place file bytes at there same = fun_ext (λ asked. by asked (bytes_eq name asked) refl)
    where
      own : file.0 ≡ name
      own =
          let passes = passes_at_first (is_named name) files file (subst (λ n. n < length files) at there) in
          (bytes_eq-Decides file.0 name).0
          (ap (is_named name) same ∙ ap (λ n. is_named name (get_or files n file)) at ∙ passes)

      by : (asked : List ℕ) (b : Bool) → bytes_eq name asked ≡ b
          → bytes_under (set files place (file.0, bytes)) asked ≡ cond b (Some bytes) (bytes_under files asked)
      by asked true is =
          let one : name ≡ asked = (bytes_eq-Decides name asked).0 is in
          ap (option_map (λ (f : File). f.1))
          (find-set (is_named asked) files place (file.0, bytes)
          (at ∙ ap (λ key. position_or_len (is_named key) files) one) there (same_name file.0 asked (own ∙ one)))
      by asked false is =
          let other : bytes_eq file.0 asked ≡ false = ap (λ key. bytes_eq key asked) own ∙ is in
          ap (option_map (λ (f : File). f.1))
          (find_past (is_named asked) files place (file.0, bytes) file
          (ap (is_named asked) (sym same) ∙ other) other)

  -- a missing name gets a file
  pub made_is : (file : File) → file.0 ≡ name → is_none (bytes_under files name) ≡ true
      → bytes_under (files ++ file ∷ []) ≡ with_file name (Some file.1) (bytes_under files)
  made_is file own none = fun_ext (λ asked. by asked (bytes_eq name asked) refl)
    where
      behind : (asked : List ℕ) → bytes_under (files ++ file ∷ []) asked
          ≡ option_map (λ (f : File). f.1)
          (option_or (find (is_named asked) files) (cond (is_named asked file) (Some file) None))
      behind asked = ap (option_map (λ (f : File). f.1)) (find-append (is_named asked) files (file ∷ []))

      first : (found : Option File) → is_none (option_map (λ (f : File). f.1) found) ≡ true
          → option_map (λ (f : File). f.1) (option_or found (Some file)) ≡ Some file.1
      first None is = refl
      first (Some f) is = absurd (false≢true is)

      stays : (found : Option File)
          → option_map (λ (f : File). f.1) (option_or found None) ≡ option_map (λ (f : File). f.1) found
      stays None = refl
      stays (Some f) = refl

      by : (asked : List ℕ) (b : Bool) → bytes_eq name asked ≡ b
          → bytes_under (files ++ file ∷ []) asked ≡ cond b (Some file.1) (bytes_under files asked)
      by asked true is =
          let one : name ≡ asked = (bytes_eq-Decides name asked).0 is in
          behind asked
          ∙ ap (λ b. option_map (λ (f : File). f.1) (option_or (find (is_named asked) files) (cond b (Some file) None)))
          (same_name file.0 asked (own ∙ one))
          ∙ first (find (is_named asked) files) (ap (λ key. is_none (bytes_under files key)) (sym one) ∙ none)
      by asked false is =
          behind asked
          ∙ ap (λ b. option_map (λ (f : File). f.1) (option_or (find (is_named asked) files) (cond b (Some file) None)))
          (ap (λ key. bytes_eq key asked) own ∙ is)
          ∙ stays (find (is_named asked) files)

  -- a name that is there, or is missing and isn't to be made, has what it had
  pub found_is : (make : Bool) → found_or_made make (bytes_under files name) ≡ bytes_under files name
      → bytes_under files ≡ with_file name (found_or_made make (bytes_under files name)) (bytes_under files)
  found_is make found = fun_ext (λ asked. by asked (bytes_eq name asked) refl)
    where
      by : (asked : List ℕ) (b : Bool) → bytes_eq name asked ≡ b → bytes_under files asked
          ≡ cond b (found_or_made make (bytes_under files name)) (bytes_under files asked)
      by asked true is = sym (found ∙ ap (bytes_under files) ((bytes_eq-Decides name asked).0 is))
      by asked false is = refl

-- a name that was missing is made
pub make_is : (files inside after : List File) (name : List ℕ) (file : File) (make : Bool) → inside ≡ files
    → make ≡ true → is_none (bytes_under files name) ≡ true → file.0 ≡ name → file.1 ≡ [] → after ≡ inside ++ file ∷ []
    → bytes_under after ≡ with_file name (found_or_made make (bytes_under files name)) (bytes_under files)
make_is files inside after name file make same on none own empty is =
    ap bytes_under (is ∙ ap (λ (before : List File). before ++ file ∷ []) same)
    ∙ made_is files name file own none
    ∙ ap (λ bytes. with_file name (Some bytes) (bytes_under files)) empty
    ∙ ap (λ bytes. with_file name bytes (bytes_under files)) (sym (found (bytes_under files name) none))
  where
    found : (bytes : Option (List ℕ)) → is_none bytes ≡ true → found_or_made make bytes ≡ Some []
    found None e = ap (λ b. found_or_made b None) on
    found (Some bytes) e = absurd (false≢true e)

-- a name that gets bytes has them
pub has_found : (files after : List File) (name : List ℕ) (bytes : Option (List ℕ))
    → bytes_under after ≡ with_file name bytes (bytes_under files) → bytes_under after name ≡ bytes
has_found files after name bytes is =
    ap (λ (under : List ℕ → Option (List ℕ)). under name) is
    ∙ ap (λ b. cond b bytes (bytes_under files name)) (same_name name name refl)

-- where nothing was found there is nothing
pub is_missing : (found : Option (Bor (List ℕ))) (bytes : Option (List ℕ)) (none : Bool) → option_copied found ≡ bytes
    → is_some found ≡ not none → none ≡ true → is_none bytes ≡ true
is_missing found bytes none is test holds = ap is_none (sym is) ∙ by found (test ∙ ap not holds)
  where
    by : (found : Option (Bor (List ℕ))) → is_some found ≡ false → is_none (option_copied found) ≡ true
    by None e = refl
    by (Some lent) e = absurd (false≢true (sym e))

-- what is there stays, where a name gets bytes
pub stays_there : (before after : List File) (name bytes asked : List ℕ)
    → bytes_under after ≡ with_file name (Some bytes) (bytes_under before) → IsThere before asked → IsThere after asked
stays_there before after name bytes asked is there =
    ap (λ (under : List ℕ → Option (List ℕ)). is_some (under asked)) is ∙ by (bytes_eq name asked)
  where
    by : (b : Bool) → is_some (cond b (Some bytes) (bytes_under before asked)) ≡ true
    by true = refl
    by false = there

-- what is there stays, where one more is put behind
pub stays_before : (before after : List File) (file : File) (asked : List ℕ) → after ≡ before ++ file ∷ []
    → IsThere before asked → IsThere after asked
stays_before before after file asked is there =
    ap (λ (files : List File). is_some (bytes_under files asked)) is
    ∙ ap (λ (found : Option File). is_some (option_map (λ (f : File). f.1) found))
    (find-append (is_named asked) before (file ∷ []))
    ∙ by (find (is_named asked) before) there
  where
    by : (found : Option File) → is_some (option_map (λ (f : File). f.1) found) ≡ true
        → is_some (option_map (λ (f : File). f.1) (option_or found (find (is_named asked) (file ∷ [])))) ≡ true
    by None e = absurd (false≢true e)
    by (Some f) e = refl

-- what holds of a list that ends with others
module _ {X : Type 0} (P : X → Type 0) where
  fronts : (xs ys : List X) → All P (xs ++ ys) → All P xs
  fronts [] ys all = All-nil P
  fronts (x ∷ xs) ys all = All-cons P x xs (All-head P x (xs ++ ys) all) (fronts xs ys (All-tail P x (xs ++ ys) all))

  pub front_of : (all xs ys : List X) → all ≡ xs ++ ys → All P all → All P xs
  front_of all xs ys is each = fronts xs ys (subst (All P) is each)
