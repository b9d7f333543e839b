-- What a text names, by its first character and its first !.
use Rattle.std.proofs.Common.{◌≡◌, ℕ, ◌<◌, true, List, [], ◌∷◌, ◌++◌, length, get_or, refl, sym, ap, ◌∙◌, arith, inl, inr, append-nil}
use Rattle.std.specs.Prelude.{◌⊎◌, ◌≢◌, Option, None, Some, Result, Ok, Err}
use Rattle.std.specs.List.{list_all}
use Rattle.std.specs.Char.{is_ascii_alphanumeric}
use Rattle.std.proofs.lemmas.Bool.{and_parts, and_from, false≢true, cases_eq}
use Rattle.std.proofs.lemmas.Bool.Decides.{nat_tests}
use Rattle.std.proofs.lemmas.List.{length-append}
use Rattle.std.proofs.lemmas.List.Folds.{list_all-append}
use Rattle.grid_range.specs.declared.band.Band.{Band}
use Rattle.a1_notation.specs.declared.a1.A1.{A1}
use Rattle.a1_notation.specs.declared.a1.A1Fault.{A1Fault}
use Rattle.a1_notation.specs.declared.a1.A1Fault.TheVariants.{NotA1, PastZZZ, NoMemory}
use Rattle.a1_notation.specs.declared.a1.Part.{Part}
use Rattle.a1_notation.specs.declared.a1.Part.TheVariants.{Cells, WholeSheet, Word}
use Rattle.a1_notation.specs.declared.corner.Corner.{Corner}
use Rattle.a1_notation.specs.declared.corner.Corner.TheVariants.{Cell, Column, Row}
use Rattle.a1_notation.specs.Title.{is_loose, IsLoose}
use Rattle.a1_notation.specs.Quoted.{quoted, IsUpToQuote}
use Rattle.a1_notation.specs.Area.{IsCorner, IsArea}
use Rattle.a1_notation.specs.Range.{IsWord, NamesPart, Names, IsNotA1, IsPastZZZ, IsReading, IsUnlessNoMemory}
use Rattle.a1_notation.specs.OneRun.{passes_weaker}
use Rattle.a1_notation.proofs.Corners.{corner_bytes}
use Rattle.a1_notation.proofs.Areas.{split_unique, absent, other_than, area_unique}
use Rattle.a1_notation.proofs.QuoteEnds.{up_to_quote_is_one}

-- the characters of an area are loose
alphanumeric_is_loose : (b : ℕ) → is_ascii_alphanumeric b ≡ true → is_loose b ≡ true
alphanumeric_is_loose b h = grind (arith, nat_tests)

corner_is_loose : (most : ℕ) (text : List ℕ) (corner : Corner) → IsCorner most text corner
    → list_all is_loose text ≡ true
corner_is_loose most text corner is =
    passes_weaker is_ascii_alphanumeric is_loose alphanumeric_is_loose text (corner_bytes most text corner is)

corner_some : (most : ℕ) (text : List ℕ) (corner : Corner) → IsCorner most text corner → 0 < length text
corner_some most text (Cell row column) is = omega (arith, is.3.letters.some, ap length is.2, length-append is.0 is.1)
corner_some most text (Column column) is = is.letters.some
corner_some most text (Row row) is = is.digits.0

pub area_is_loose : (most : ℕ) (text : List ℕ) (rows columns : Band) → IsArea most text rows columns → IsLoose text text
area_is_loose most text rows columns (inl cell) = record {
  some = corner_some most text (Cell cell.row cell.column) cell.cell;
  loose = corner_is_loose most text (Cell cell.row cell.column) cell.cell;
  same = refl;
}
area_is_loose most text rows columns (inr two) = record {
  some = omega (arith, ap length two.parts, length-append two.first (58 ∷ two.second));
  loose = rw (two.parts, list_all-append is_loose two.first (58 ∷ two.second))
      (and_from (list_all is_loose two.first) (list_all is_loose two.second)
      (corner_is_loose most two.first two.between.one two.between.one_is)
      (corner_is_loose most two.second two.between.other two.between.other_is));
  same = refl;
}

-- loose characters don't begin with a quote, and have no !
loose_first : (text : List ℕ) → list_all is_loose text ≡ true → get_or text 0 0 ≢ 39
loose_first [] loose e = absurd (omega arith)
loose_first (c ∷ cs) loose e =
    let test = (and_parts (is_loose c) (list_all is_loose cs) loose).0 in
    absurd (false≢true (rw e at test))

loose_front : (text front rest : List ℕ) → list_all is_loose front ≡ true → 0 < length front → text ≡ front ++ rest
    → get_or text 0 0 ≢ 39
loose_front text [] rest loose some e = λ first. absurd (omega arith)
loose_front text (c ∷ cs) rest loose some e = λ first. loose_first (c ∷ cs) loose (rw e at first)

loose_is_no_mark : (b : ℕ) → is_loose b ≡ true → other_than 33 b ≡ true
loose_is_no_mark b h = grind (arith, nat_tests)

loose_has_no_mark : (text : List ℕ) → list_all is_loose text ≡ true → list_all (other_than 33) text ≡ true
loose_has_no_mark text loose = passes_weaker is_loose (other_than 33) loose_is_no_mark text loose

name_is_loose : (text name : List ℕ) → IsLoose text name → list_all is_loose text ≡ true
name_is_loose text name is = rw is.same is.loose

-- behind a quote
abbrev pub IsWholeSheet : List ℕ → List ℕ → A1 → Type 0
IsWholeSheet title rest range = (rest ≡ []) × (range ≡ record { sheet = Some title; part = WholeSheet })

pub record IsCellsOf (most : ℕ) (title rest : List ℕ) (range : A1) : Type 0 where
  pub area : List ℕ
  pub rows : Band
  pub columns : Band
  pub mark : rest ≡ 33 ∷ area
  pub is : IsArea most area rows columns
  pub same : range ≡ record { sheet = Some title; part = Cells rows columns }

pub record IsBehindQuote (most : ℕ) (inside : List ℕ) (range : A1) : Type 0 where
  pub title : List ℕ
  pub rest : List ℕ
  pub up_to : IsUpToQuote 39 inside title rest
  pub some : 0 < length title
  pub names : IsWholeSheet title rest range ⊎ IsCellsOf most title rest range

not_loose_quote : (inside : List ℕ) → list_all is_loose (39 ∷ inside) ≡ true → ⊥
not_loose_quote inside loose = loose_first (39 ∷ inside) loose refl

behind_quote_part : (most : ℕ) (inside : List ℕ) (sheet : Option (List ℕ)) (part : Part) → NamesPart most
    (39 ∷ inside) sheet part → IsBehindQuote most inside (record { sheet = sheet; part = part })
behind_quote_part most inside None (Cells rows columns) is =
    absurd (not_loose_quote inside (area_is_loose most (39 ∷ inside) rows columns is).loose)
behind_quote_part most inside None WholeSheet is = absurd is
behind_quote_part most inside None (Word word) is =
    absurd (not_loose_quote inside (name_is_loose (39 ∷ inside) word is.loose))
behind_quote_part most inside (Some title) (Cells rows columns) is =
    elim is.title_is [
      | inl quotes ↦
          record {
            title = title;
            rest = 33 ∷ is.part;
            up_to = record { parts = rw quotes.spelled at is.parts; closed = λ e. absurd (omega arith) };
            some = quotes.some;
            names =
                inr
                (record { area = is.part; rows = rows; columns = columns; mark = refl; is = is.area_is; same = refl });
          }
      | inr loose ↦
          absurd
          (loose_front (39 ∷ inside) is.sheet (33 ∷ is.part) (name_is_loose is.sheet title loose) (omega (
            arith,
            loose.some,
            ap length loose.same,
          )) is.parts refl)
    ]
behind_quote_part most inside (Some title) WholeSheet is = record {
  title = title;
  rest = [];
  up_to = record { parts = is.spelled ∙ sym (append-nil (quoted 39 title)); closed = λ e. absurd (omega arith) };
  some = is.some;
  names = inl (refl, refl);
}
behind_quote_part most inside (Some title) (Word word) is = absurd is

pub behind_quote : (most : ℕ) (inside : List ℕ) (range : A1) → Names most (39 ∷ inside) range
    → IsBehindQuote most inside range
behind_quote most inside range is = behind_quote_part most inside range.sheet range.part is

-- without a quote in front
pub record IsCellsOfLoose (most : ℕ) (text : List ℕ) (range : A1) : Type 0 where
  pub title : List ℕ
  pub area : List ℕ
  pub rows : Band
  pub columns : Band
  pub mark : text ≡ title ++ (33 ∷ area)
  pub loose : IsLoose title title
  pub is : IsArea most area rows columns
  pub same : range ≡ record { sheet = Some title; part = Cells rows columns }

pub record IsCellsAlone (most : ℕ) (text : List ℕ) (range : A1) : Type 0 where
  pub rows : Band
  pub columns : Band
  pub is : IsArea most text rows columns
  pub same : range ≡ record { sheet = None; part = Cells rows columns }

pub record IsWordAlone (most : ℕ) (text : List ℕ) (range : A1) : Type 0 where
  pub word : List ℕ
  pub is : IsWord most text word
  pub same : range ≡ record { sheet = None; part = Word word }

abbrev pub IsUnquoted : ℕ → List ℕ → A1 → Type 0
IsUnquoted most text range =
    (IsCellsAlone most text range ⊎ IsWordAlone most text range) ⊎ IsCellsOfLoose most text range

unquoted_part : (most : ℕ) (text : List ℕ) → get_or text 0 0 ≢ 39 → (sheet : Option (List ℕ))
    (part : Part) → NamesPart most text sheet part → IsUnquoted most text (record { sheet = sheet; part = part })
unquoted_part most text first None (Cells rows columns) is =
    inl (inl (record { rows = rows; columns = columns; is = is; same = refl }))
unquoted_part most text first None WholeSheet is = absurd is
unquoted_part most text first None (Word word) is = inl (inr (record { word = word; is = is; same = refl }))
unquoted_part most text first (Some title) (Cells rows columns) is =
    elim is.title_is [
      | inl quotes ↦ absurd (first (rw (is.parts, quotes.spelled) refl))
      | inr loose ↦ inr (record {
        title = title;
        area = is.part;
        rows = rows;
        columns = columns;
        mark = rw loose.same at is.parts;
        loose = record { some = loose.some; loose = loose.loose; same = refl };
        is = is.area_is;
        same = refl;
      })
    ]
unquoted_part most text first (Some title) WholeSheet is = absurd (first (rw is.spelled refl))
unquoted_part most text first (Some title) (Word word) is = absurd is

pub unquoted : (most : ℕ) (text : List ℕ) (range : A1) → get_or text 0 0 ≢ 39 → Names most text range
    → IsUnquoted most text range
unquoted most text range first is = unquoted_part most text first range.sheet range.part is

-- a text without a ! that doesn't begin with a quote names something only if it is loose
pub unmarked_is_loose : (most : ℕ) (text : List ℕ) (range : A1) → get_or text 0 0 ≢ 39
    → list_all (other_than 33) text ≡ true → Names most text range → IsLoose text text
unmarked_is_loose most text range first no_mark is =
    elim (unquoted most text range first is) [
      | inl alone ↦ elim alone [
        | inl cells ↦ area_is_loose most text cells.rows cells.columns cells.is
        | inr word ↦ record {
          some = omega (arith, word.is.loose.some, ap length word.is.loose.same);
          loose = name_is_loose text word.word word.is.loose;
          same = refl;
        }
      ]
      | inr cells ↦ absurd (absent (other_than 33) 33 cells.title cells.area (rw cells.mark at no_mark) refl)
    ]

-- a text that doesn't begin with a quote names, with a ! in it, what stands before the first one and the area behind it
pub record IsMarked (most : ℕ) (title area : List ℕ) (range : A1) : Type 0 where
  pub loose : IsLoose title title
  pub rows : Band
  pub columns : Band
  pub is : IsArea most area rows columns
  pub same : range ≡ record { sheet = Some title; part = Cells rows columns }

pub marked : (most : ℕ) (text title area : List ℕ) (range : A1) → get_or text 0 0 ≢ 39 → text ≡ title ++ (33 ∷ area)
    → list_all (other_than 33) title ≡ true → Names most text range → IsMarked most title area range
marked most text title area range first mark no_mark is =
    elim (unquoted most text range first is) [
      | inl alone ↦ elim alone [
        | inl cells ↦
            absurd
            (absent is_loose 33 title area
            (rw mark at (area_is_loose most text cells.rows cells.columns cells.is).loose) refl)
        | inr word ↦
            absurd (absent is_loose 33 title area (rw mark at (name_is_loose text word.word word.is.loose)) refl)
      ]
      | inr cells ↦
          let same = split_unique (other_than 33) 33 cells.title title cells.area area
          (loose_has_no_mark cells.title cells.loose.loose) no_mark refl (sym cells.mark ∙ mark) in
          record {
            loose = rw same.0 at cells.loose;
            rows = cells.rows;
            columns = cells.columns;
            is = rw same.1 at cells.is;
            same = rw same.0 at cells.same;
          }
    ]

pub marked_names : (most : ℕ) (text title area : List ℕ)
    (rows columns : Band) → text ≡ title ++ (33 ∷ area) → IsLoose title title → IsArea most area rows columns
    → Names most text
    (record { sheet = Some title; part = Cells rows columns })
marked_names most text title area rows columns mark loose is = record {
  sheet = title;
  part = area;
  parts = mark;
  title_is = inr loose;
  area_is = is;
}

-- a title in quotes and an area
pub record IsQuotedArea (most : ℕ) (title area : List ℕ) (range : A1) : Type 0 where
  pub rows : Band
  pub columns : Band
  pub is : IsArea most area rows columns
  pub same : range ≡ record { sheet = Some title; part = Cells rows columns }

pub quoted_area : (most : ℕ) (inside title rest area : List ℕ) (range : A1) → IsUpToQuote 39 inside title rest
    → rest ≡ 33 ∷ area → Names most (39 ∷ inside) range → IsQuotedArea most title area range
quoted_area most inside title rest area range up_to mark is =
    let found = behind_quote most inside range is in
    let same = up_to_quote_is_one 39 inside found.title found.rest title rest found.up_to up_to in
    elim found.names [
      | inl whole ↦ let clash : [] ≡ 33 ∷ area = sym whole.0 ∙ (same.1 ∙ mark) in absurd cc
      | inr cells ↦
          let tails : 33 ∷ cells.area ≡ 33 ∷ area = sym cells.mark ∙ (same.1 ∙ mark) in
          let tail : cells.area ≡ area = cc in
          record {
            rows = cells.rows;
            columns = cells.columns;
            is = rw tail at cells.is;
            same = rw same.0 at cells.same;
          }
    ]

pub quoted_area_names : (most : ℕ) (inside title rest area : List ℕ)
    (rows columns : Band) → IsUpToQuote 39 inside title rest → 0 < length title → rest ≡ 33 ∷ area
    → IsArea most area rows columns → Names most
    (39 ∷ inside) (record { sheet = Some title; part = Cells rows columns })
quoted_area_names most inside title rest area rows columns up_to some mark is = record {
  sheet = quoted 39 title;
  part = area;
  parts = up_to.parts ∙ ap (λ t. quoted 39 title ++ t) mark;
  title_is = inl (record { some = some; spelled = refl });
  area_is = is;
}

-- a fault of a text, from what it says
pub fault_reading : (text : List ℕ) (fault : A1Fault) → (fault ≡ NotA1 → IsNotA1 text)
    → (fault ≡ PastZZZ → IsPastZZZ text) → IsReading text (Err fault)
fault_reading text fault not_a1 past = record {
  read = tt;
  not_a1 = λ e. not_a1 cc;
  past_zzz = λ e. past cc;
}

pub not_a1_reading : (text : List ℕ) → IsNotA1 text → IsReading text (Err NotA1)
not_a1_reading text nothing = fault_reading text NotA1 (λ _. nothing) (λ e. absurd cc)

-- what `read_area` says of a fault
pub record IsAreaFault (area : List ℕ) (fault : A1Fault) : Type 0 where
  pub none : (rows columns : Band) → ¬ (IsArea 3 area rows columns)
  pub not_a1 : fault ≡ NotA1 → (most : ℕ) (rows columns : Band) → ¬ (IsArea most area rows columns)
  pub past : fault ≡ PastZZZ → (most : ℕ) × (rows : Band) × (columns : Band) × IsArea most area rows columns

pub quoted_fault : (inside title rest area : List ℕ) (fault : A1Fault) → IsUpToQuote 39 inside title rest
    → 0 < length title → rest ≡ 33 ∷ area → IsAreaFault area fault → IsReading (39 ∷ inside) (Err fault)
quoted_fault inside title rest area fault up_to some mark is =
    fault_reading (39 ∷ inside) fault
    (λ e most range names. let found = quoted_area most inside title rest area range up_to mark names in
    is.not_a1 e most found.rows found.columns found.is)
    (λ e. let past = is.past e in record {
      most = past.0;
      range = record { sheet = Some title; part = Cells past.1 past.2 };
      named = quoted_area_names past.0 inside title rest area past.1 past.2 up_to some mark past.3;
      unnamed = λ other names. let found = quoted_area 3 inside title rest area other up_to mark names in
          is.none found.rows found.columns found.is;
    })

pub marked_fault : (text title area : List ℕ) (fault : A1Fault) → get_or text 0 0 ≢ 39 → text ≡ title ++ (33 ∷ area)
    → list_all (other_than 33) title ≡ true → IsLoose title title → IsAreaFault area fault
    → IsReading text (Err fault)
marked_fault text title area fault first mark no_mark loose is =
    fault_reading text fault
    (λ e most range names. let found = marked most text title area range first mark no_mark names in
    is.not_a1 e most found.rows found.columns found.is)
    (λ e. let past = is.past e in record {
      most = past.0;
      range = record { sheet = Some title; part = Cells past.1 past.2 };
      named = marked_names past.0 text title area past.1 past.2 mark loose past.3;
      unnamed = λ other names. let found = marked 3 text title area other first mark no_mark names in
          is.none found.rows found.columns found.is;
    })

-- behind a quote, where nothing is named
pub unclosed_is_nothing : (inside : List ℕ) → ((title rest : List ℕ) → ¬ (IsUpToQuote 39 inside title rest))
    → IsNotA1 (39 ∷ inside)
unclosed_is_nothing inside none most range names =
    let found = behind_quote most inside range names in
    none found.title found.rest found.up_to

pub empty_title_is_nothing : (inside title rest : List ℕ) → IsUpToQuote 39 inside title rest → length title ≡ 0
    → IsNotA1 (39 ∷ inside)
empty_title_is_nothing inside title rest up_to empty most range names =
    let found = behind_quote most inside range names in
    let same = up_to_quote_is_one 39 inside found.title found.rest title rest found.up_to up_to in
    absurd (omega (arith, found.some, ap length same.0))

pub unmarked_is_nothing : (inside title rest : List ℕ) → IsUpToQuote 39 inside title rest → 0 < length rest
    → ((area : List ℕ) → rest ≢ 33 ∷ area) → IsNotA1 (39 ∷ inside)
unmarked_is_nothing inside title rest up_to some none most range names =
    let found = behind_quote most inside range names in
    let same = up_to_quote_is_one 39 inside found.title found.rest title rest found.up_to up_to in
    elim found.names [
      | inl whole ↦ absurd (omega (arith, ap length (sym same.1 ∙ whole.0)))
      | inr cells ↦ none cells.area (sym same.1 ∙ cells.mark)
    ]

-- a text has one reading
same_cells : (title title' : Option (List ℕ)) (rows columns rows' columns' : Band)
    (one other : A1) → one ≡ record { sheet = title; part = Cells rows columns }
    → other ≡ record { sheet = title'; part = Cells rows' columns' } → title ≡ title'
    → (rows ≡ rows') × (columns ≡ columns') → one ≡ other
same_cells title title' rows columns rows' columns' one other a b e areas = a ∙ rw (e, areas.0, areas.1) (sym b)

behind_quote_unique : (most : ℕ) (inside : List ℕ) (one other : A1) → IsBehindQuote most inside one
    → IsBehindQuote most inside other → one ≡ other
behind_quote_unique most inside one other a b =
    let same = up_to_quote_is_one 39 inside a.title a.rest b.title b.rest a.up_to b.up_to in
    elim a.names [
      | inl whole ↦ elim b.names [
        | inl whole' ↦ whole.1 ∙ rw same.0 (sym whole'.1)
        | inr cells' ↦ let clash : [] ≡ 33 ∷ cells'.area = sym whole.0 ∙ (same.1 ∙ cells'.mark) in absurd cc
      ]
      | inr cells ↦ elim b.names [
        | inl whole' ↦ let clash : 33 ∷ cells.area ≡ [] = sym cells.mark ∙ (same.1 ∙ whole'.0) in absurd cc
        | inr cells' ↦
            let tails : 33 ∷ cells.area ≡ 33 ∷ cells'.area = sym cells.mark ∙ (same.1 ∙ cells'.mark) in
            let tail : cells.area ≡ cells'.area = cc in
            same_cells (Some a.title)
            (Some b.title) cells.rows cells.columns cells'.rows cells'.columns one other cells.same cells'.same
            (ap (λ t. Some t) same.0)
            (area_unique most most cells'.area cells.rows cells.columns cells'.rows cells'.columns
            (rw tail at cells.is) cells'.is)
      ]
    ]

loose_is_unmarked : (most : ℕ) (text : List ℕ) (range : A1) → list_all is_loose text ≡ true
    → IsCellsOfLoose most text range → ⊥
loose_is_unmarked most text range loose cells = absent is_loose 33 cells.title cells.area (rw cells.mark at loose) refl

unquoted_unique : (most : ℕ) (text : List ℕ) (one other : A1) → IsUnquoted most text one → IsUnquoted most text other
    → one ≡ other
unquoted_unique most text one other (inl (inl a)) (inl (inl b)) =
    same_cells None None a.rows a.columns b.rows b.columns one other a.same b.same refl
    (area_unique most most text a.rows a.columns b.rows b.columns a.is b.is)
unquoted_unique most text one other (inl (inl a)) (inl (inr b)) = absurd (b.is.no_area a.rows a.columns a.is)
unquoted_unique most text one other (inl (inl a)) (inr b) =
    absurd (loose_is_unmarked most text other (area_is_loose most text a.rows a.columns a.is).loose b)
unquoted_unique most text one other (inl (inr a)) (inl (inl b)) = absurd (a.is.no_area b.rows b.columns b.is)
unquoted_unique most text one other (inl (inr a)) (inl (inr b)) =
    let word : a.word ≡ b.word = sym a.is.loose.same ∙ b.is.loose.same in
    a.same ∙ rw word (sym b.same)
unquoted_unique most text one other (inl (inr a)) (inr b) =
    absurd (loose_is_unmarked most text other (name_is_loose text a.word a.is.loose) b)
unquoted_unique most text one other (inr a) (inl (inl b)) =
    absurd (loose_is_unmarked most text one (area_is_loose most text b.rows b.columns b.is).loose a)
unquoted_unique most text one other (inr a) (inl (inr b)) =
    absurd (loose_is_unmarked most text one (name_is_loose text b.word b.is.loose) a)
unquoted_unique most text one other (inr a) (inr b) =
    let same = split_unique (other_than 33) 33 a.title b.title a.area b.area (loose_has_no_mark a.title a.loose.loose)
    (loose_has_no_mark b.title b.loose.loose) refl (sym a.mark ∙ b.mark) in
    same_cells (Some a.title) (Some b.title) a.rows a.columns b.rows b.columns one other a.same b.same
    (ap (λ t. Some t) same.0)
    (area_unique most most b.area a.rows a.columns b.rows b.columns (rw same.1 at a.is) b.is)

pub one_reading : (most : ℕ) (text : List ℕ) (one other : A1) → Names most text one → Names most text other
    → one ≡ other
one_reading most [] one other a b =
    unquoted_unique most [] one other (unquoted most [] one (λ e. absurd (omega arith)) a)
    (unquoted most [] other (λ e. absurd (omega arith)) b)
one_reading most (c ∷ cs) one other a b =
    elim (cases_eq c 39) [
      | inl quote ↦
          behind_quote_unique most cs one other (behind_quote most cs one (rw quote at a))
          (behind_quote most cs other (rw quote at b))
      | inr first ↦
          unquoted_unique most (c ∷ cs) one other (unquoted most (c ∷ cs) one first a)
          (unquoted most (c ∷ cs) other first b)
    ]

-- what a text names is the answer
pub exact_named : (text : List ℕ) (answer : Result A1 A1Fault) (range : A1) → IsReading text answer
    → Names 3 text range → IsUnlessNoMemory answer (Ok range)
exact_named text (Ok found) range reading names = inl (rw (one_reading 3 text found range reading.read names) refl)
exact_named text (Err NotA1) range reading names = absurd (reading.not_a1 refl 3 range names)
exact_named text (Err PastZZZ) range reading names = absurd ((reading.past_zzz refl).unnamed range names)
exact_named text (Err NoMemory) range reading names = inr refl
