-- What the store of protected ranges tells of areas and lists of cells is what is meant of these cells.
use Rattle.std.proofs.Common.{◌≡◌, ℕ, ◌+◌, ◌<◌, ◌≤◌, ◌++◌, ◌∷◌, [], Bool, false, List, length, get_or, take, min, refl, sym, subst, ◌∙◌, ⊎_elim, inl, inr, arith}
use Rattle.std.specs.Prelude.{◌⊎◌, ◌↔◌, Option, Some, None, IsSomeAnd, IfSome, IfNone, All, Contains}
use Rattle.std.specs.Option.{IsSome}
use Rattle.std.proofs.lemmas.Bool.{cases_lt}
use Rattle.std.proofs.lemmas.List.{take_more}
use Rattle.std.proofs.lemmas.List.Quantifiers.{Any-push}
use Rattle.cell_value.specs.declared.cell.Block.{Block}
use Rattle.grid_range.specs.declared.area.Area.{Area}
use Rattle.protection.specs.Denial.{Cells, Denies, DeniesOne, DeniesSome, IsFirst, ListedCells}
use Rattle.protection.specs.declared.range.Protection.{Protection}
use Rattle.world_model.specs.Book.{PlaceBook}
use Rattle.world_model.specs.Sheet.{PlaceSheet}
use Rattle.world_model.specs.Sound.{place_sheet_with}
use Rattle.values_api.specs.Blocks.{written}
use Rattle.values_api.specs.Denials.{AreRestOf, AreaCells, CellsOfAll, HasCellOf, IsDenial, OnSheet, RestCells, WriteCells, lesser}
use Rattle.values_api.specs.Rest.{is_reached}
use Rattle.values_api.proofs.Pushed.{pushed, kept}

-- ---- protections that deny alike

module _ (user : List ℕ) (book : PlaceBook) (cells : Cells) (Denying : Protection → Type 0)
    (to : (one : Protection) → Denying one → DeniesOne user book.owner cells one)
    (from : (one : Protection) → DeniesOne user book.owner cells one → Denying one) where
  -- what is told of the first of them is what is meant
  pub denial_is : (found : Option ℕ) → IfSome found (IsFirst Denying book.protections)
      → IfNone found (All (λ one. ¬ (Denying one)) book.protections) → IsDenial user book cells found
  denial_is None first none = λ k d there one. none k d there (from (get_or book.protections k d) one)
  denial_is (Some id) first none = record {
    protection = first.protection;
    listed = first.listed;
    has_id = first.has_id;
    denies = to first.protection first.denies;
    least = λ k d there less one. first.least k d there less (from (get_or book.protections k d) one);
  }

-- a protection denies one of these cells that denies one of those
abbrev pub AreAmong : Cells → Cells → Type 0
AreAmong cells more = (id row col : ℕ) → cells id row col → more id row col

denies_more : (user owner : List ℕ) (cells more : Cells) (one : Protection) → AreAmong cells more
    → DeniesOne user owner cells one → DeniesOne user owner more one
denies_more user owner cells more one among denies = record {
  sheet = denies.sheet;
  row = denies.row;
  col = denies.col;
  is = among denies.sheet denies.row denies.col denies.is;
  denied = denies.denied;
}

module _ (user : List ℕ) (book : PlaceBook) where
  -- of the same cells the same is denied
  pub denial_same : (cells other : Cells) → AreAmong cells other → AreAmong other cells → (found : Option ℕ)
      → IsDenial user book cells found → IsDenial user book other found
  denial_same cells other to from None none = denial_is user book other (DeniesOne user book.owner cells)
      (λ one. denies_more user book.owner cells other one to) (λ one. denies_more user book.owner other cells one from)
      None tt none
  denial_same cells other to from (Some id) first = denial_is user book other (DeniesOne user book.owner cells)
      (λ one. denies_more user book.owner cells other one to) (λ one. denies_more user book.owner other cells one from)
      (Some id) first tt

  -- where none of more cells is denied, none of fewer is
  pub denial_of_fewer : (cells more : Cells) → AreAmong cells more → IsDenial user book more None
      → IsDenial user book cells None
  denial_of_fewer cells more among none = λ k d there one.
      none k d there (denies_more user book.owner cells more (get_or book.protections k d) among one)

  -- where there are no cells none is denied
  pub no_denial : (cells : Cells) → ((id row col : ℕ) → ¬ (cells id row col)) → IsDenial user book cells None
  no_denial cells none = λ k d there one. none one.sheet one.row one.col one.is

-- ---- cells of two kinds

abbrev pub Either : Cells → Cells → Cells
Either cells more id row col = cells id row col ⊎ more id row col

module _ (user : List ℕ) (book : PlaceBook) (cells more : Cells) where
  abbrev Denied : Protection → Type 0
  Denied = DeniesOne user book.owner cells

  abbrev DeniedMore : Protection → Type 0
  DeniedMore = DeniesOne user book.owner more

  abbrev DeniedEither : Protection → Type 0
  DeniedEither = DeniesOne user book.owner (Either cells more)

  one_of : (one : Protection) → DeniedEither one → Denied one ⊎ DeniedMore one
  one_of one denies = ⊎_elim
      (λ (is : cells denies.sheet denies.row denies.col). inl (record {
        sheet = denies.sheet;
        row = denies.row;
        col = denies.col;
        is = is;
        denied = denies.denied;
      }))
      (λ (is : more denies.sheet denies.row denies.col). inr (record {
        sheet = denies.sheet;
        row = denies.row;
        col = denies.col;
        is = is;
        denied = denies.denied;
      }))
      denies.is

  left : (one : Protection) → Denied one → DeniedEither one
  left one = denies_more user book.owner cells (Either cells more) one (λ id row col is. inl is)

  right : (one : Protection) → DeniedMore one → DeniedEither one
  right one = denies_more user book.owner more (Either cells more) one (λ id row col is. inr is)

  first_left : (id : ℕ) → IsFirst Denied book.protections id
      → All (λ one. one.id < id → ¬ (DeniedMore one)) book.protections
      → IsFirst DeniedEither book.protections id
  first_left id first none = record {
    protection = first.protection;
    listed = first.listed;
    has_id = first.has_id;
    denies = left first.protection first.denies;
    least = λ k d there less denies. ⊎_elim
        (λ (one : Denied (get_or book.protections k d)). first.least k d there less one)
        (λ (one : DeniedMore (get_or book.protections k d)). none k d there less one)
        (one_of (get_or book.protections k d) denies);
  }

  first_right : (id : ℕ) → IsFirst DeniedMore book.protections id
      → All (λ one. one.id < id → ¬ (Denied one)) book.protections
      → IsFirst DeniedEither book.protections id
  first_right id first none = record {
    protection = first.protection;
    listed = first.listed;
    has_id = first.has_id;
    denies = right first.protection first.denies;
    least = λ k d there less denies. ⊎_elim
        (λ (one : Denied (get_or book.protections k d)). none k d there less one)
        (λ (one : DeniedMore (get_or book.protections k d)). first.least k d there less one)
        (one_of (get_or book.protections k d) denies);
  }

  -- the lesser of two ids is the least that denies one of both kinds
  pub denial_of_either : (found other : Option ℕ) → IsDenial user book cells found → IsDenial user book more other
      → IsDenial user book (Either cells more) (lesser found other)
  denial_of_either None None none none' = λ k d there denies. ⊎_elim
      (λ (one : Denied (get_or book.protections k d)). none k d there one)
      (λ (one : DeniedMore (get_or book.protections k d)). none' k d there one)
      (one_of (get_or book.protections k d) denies)
  denial_of_either None (Some id) none first = first_right id first (λ k d there less. none k d there)
  denial_of_either (Some id) None first none = first_left id first (λ k d there less. none k d there)
  denial_of_either (Some id) (Some next) first first' = ⊎_elim
      (λ (before : id < next).
      let least : id ≡ min id next = omega arith in
      subst (IsFirst DeniedEither book.protections) least
      (first_left id first (λ k d there less. first'.least k d there (omega (arith, before, less)))))
      (λ (behind : next ≤ id).
      let least : next ≡ min id next = omega arith in
      subst (IsFirst DeniedEither book.protections) least
      (first_right next first' (λ k d there less. first.least k d there (omega (arith, behind, less)))))
      (cases_lt id next)

-- ---- an area

-- what holds of the sheet that is found
pub on_found : (sheets : List PlaceSheet) (id : ℕ) (sheet : PlaceSheet) → place_sheet_with id sheets ≡ Some sheet
    → (P : PlaceSheet → Type 0) → IsSomeAnd (place_sheet_with id sheets) P → P sheet
on_found sheets id sheet there P holds = subst (λ o. IsSomeAnd o P) there holds

pub found_on : (sheets : List PlaceSheet) (id : ℕ) (sheet : PlaceSheet) → place_sheet_with id sheets ≡ Some sheet
    → (P : PlaceSheet → Type 0) → P sheet → IsSomeAnd (place_sheet_with id sheets) P
found_on sheets id sheet there P holds = subst (λ o. IsSomeAnd o P) (sym there) holds

module _ (user : List ℕ) (book : PlaceBook) (area : Area) where
  -- without its sheet there are none of its cells
  pub not_on : (Has : PlaceSheet → ℕ → ℕ → Type 0) → place_sheet_with area.sheet book.sheets ≡ None
      → (id row col : ℕ) → ¬ (OnSheet book.sheets area.sheet Has id row col)
  not_on Has none id row col (same, has) = subst (λ o. IsSomeAnd o (λ found. Has found row col)) none has

  module _ (sheet : PlaceSheet) (there : place_sheet_with area.sheet book.sheets ≡ Some sheet) where
    some_to_one : (one : Protection) → DeniesSome user book.owner area sheet.table.rows sheet.table.cols one
        → DeniesOne user book.owner (AreaCells book.sheets area) one
    some_to_one one some = record {
      sheet = area.sheet;
      row = some.row;
      col = some.col;
      is = (
        refl,
        found_on book.sheets area.sheet sheet there (λ found. HasCellOf area found some.row some.col)
            (some.asked, some.row_there, some.col_there),
      );
      denied = some.denied;
    }

    one_to_some : (one : Protection) → DeniesOne user book.owner (AreaCells book.sheets area) one
        → DeniesSome user book.owner area sheet.table.rows sheet.table.cols one
    one_to_some one denies =
        let has = on_found book.sheets area.sheet sheet there (λ found. HasCellOf area found denies.row denies.col)
        denies.is.1 in
        record {
          row = denies.row;
          col = denies.col;
          row_there = has.1;
          col_there = has.2;
          asked = has.0;
          denied = subst (λ n. Denies user book.owner n denies.row denies.col one) denies.is.0 denies.denied;
        }

    pub area_denied : (found : Option ℕ)
        → IfSome found (IsFirst (DeniesSome user book.owner area sheet.table.rows sheet.table.cols) book.protections)
        → IfNone found (All (λ one. ¬ (DeniesSome user book.owner area sheet.table.rows sheet.table.cols one))
        book.protections)
        → IsDenial user book (AreaCells book.sheets area) found
    area_denied = denial_is user book (AreaCells book.sheets area)
        (DeniesSome user book.owner area sheet.table.rows sheet.table.cols) some_to_one one_to_some

    -- the cells of a write that are listed
    pub listed_is_written : (one_cell : Bool) (block : Block) (cells : List (ℕ × ℕ))
        → ((row col : ℕ) → Contains cells (row, col) ↔ IsSome (written one_cell area block sheet row col))
        → (found : Option ℕ) → IsDenial user book (ListedCells area.sheet cells) found
        → IsDenial user book (WriteCells book.sheets one_cell area block) found
    listed_is_written one_cell block cells are = denial_same user book (ListedCells area.sheet cells)
        (WriteCells book.sheets one_cell area block)
        (λ id row col (same, listed). (
          same,
          found_on book.sheets area.sheet sheet there (λ found. IsSome (written one_cell area block found row col))
              ((are row col).0 listed),
        ))
        (λ id row col (same, wrote). (
          same,
          (are row col).1 (on_found book.sheets area.sheet sheet there
              (λ found. IsSome (written one_cell area block found row col)) wrote),
        ))

    -- the rest of it, as areas
    pub rest_is_rest : (block : Block) (areas : List Area) → AreRestOf sheet area block areas → (found : Option ℕ)
        → IsDenial user book (CellsOfAll book.sheets areas) found
        → IsDenial user book (RestCells book.sheets area block) found
    rest_is_rest block areas (own, are) = denial_same user book (CellsOfAll book.sheets areas)
        (RestCells book.sheets area block) to from
      where
        to : AreAmong (CellsOfAll book.sheets areas) (RestCells book.sheets area block)
        to id row col (k, one, below, at, has_one) =
            let (same, has) = has_one in
            let of : one.sheet ≡ area.sheet = subst (λ (a : Area). a.sheet ≡ area.sheet) at (own k one below) in
            let held : HasCellOf one sheet row col = on_found book.sheets area.sheet sheet there
            (λ found. HasCellOf one found row col)
            (subst (λ n. IsSomeAnd (place_sheet_with n book.sheets) (λ found. HasCellOf one found row col)) of has) in (
              same ∙ of,
              found_on book.sheets area.sheet sheet there
                  (λ found. HasCellOf area found row col × (is_reached area block row col ≡ false))
                  ((are row col).0 (k, one, below, at, held)),
            )

        from : AreAmong (RestCells book.sheets area block) (CellsOfAll book.sheets areas)
        from id row col (same, rest) =
            let (k, one, below, at, held) = (are row col).1 (on_found book.sheets area.sheet sheet there
            (λ found. HasCellOf area found row col × (is_reached area block row col ≡ false)) rest) in
            let of : one.sheet ≡ area.sheet = subst (λ (a : Area). a.sheet ≡ area.sheet) at (own k one below) in (
              k,
              one,
              below,
              at,
              (
                same ∙ sym of,
                subst (λ n. IsSomeAnd (place_sheet_with n book.sheets) (λ found. HasCellOf one found row col)) (sym of)
                    (found_on book.sheets area.sheet sheet there (λ found. HasCellOf one found row col) held),
              ),
            )

-- ---- several areas

module _ (sheets : List PlaceSheet) (areas : List Area) (k : ℕ) (default : Area) (there : k < length areas) where
  abbrev area : Area
  area = get_or areas k default

  abbrev Before : List Area
  Before = take k areas

  abbrev More : List Area
  More = take (k + 1) areas

  -- an area has the cell
  abbrev HasThat : ℕ → ℕ → ℕ → Area → Type 0
  HasThat id row col one = AreaCells sheets one id row col

  more_is : More ≡ Before ++ area ∷ []
  more_is = take_more areas k default there

  to_either : AreAmong (CellsOfAll sheets More) (Either (CellsOfAll sheets Before) (AreaCells sheets area))
  to_either id row col any = pushed (HasThat id row col) Before area
      (subst (λ list. CellsOfAll sheets list id row col) more_is any)

  from_either : AreAmong (Either (CellsOfAll sheets Before) (AreaCells sheets area)) (CellsOfAll sheets More)
  from_either id row col either = subst (λ list. CellsOfAll sheets list id row col) (sym more_is) (⊎_elim
      (λ (any : CellsOfAll sheets Before id row col). kept (HasThat id row col) Before area any)
      (λ (has : AreaCells sheets area id row col). Any-push (HasThat id row col) Before area has) either)

  -- one area more
  pub denial_of_more : (user : List ℕ) (book : PlaceBook) → book.sheets ≡ sheets → (found other : Option ℕ)
      → IsDenial user book (CellsOfAll sheets Before) found → IsDenial user book (AreaCells sheets area) other
      → IsDenial user book (CellsOfAll sheets More) (lesser found other)
  denial_of_more user book same found other so_far of_area =
      denial_same user book (Either (CellsOfAll sheets Before) (AreaCells sheets area)) (CellsOfAll sheets More)
      from_either to_either (lesser found other)
      (denial_of_either user book (CellsOfAll sheets Before) (AreaCells sheets area) found other so_far of_area)
