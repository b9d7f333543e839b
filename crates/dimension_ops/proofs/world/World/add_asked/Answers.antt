use Rattle.std.proofs.Common.{◌≡◌, ℕ, sym, subst, length, List, []}
use Rattle.std.specs.Prelude.{None, Ok, Err}
use Rattle.cell_value.specs.declared.cell.SheetProperties.{SheetProperties}
use Rattle.world_model.specs.Making.{Placed}
use Rattle.dimension_ops.specs.Broken.{first_broken, judged_by}
use Rattle.dimension_ops.specs.Creating.{ArePlaced, book_id, created_broken}
use Rattle.dimension_ops.specs.Rules.{IsUnlessNoMemory}
use Rattle.dimension_ops.proofs.Making.{can_be_made, few_books, have_places, made_so, refused_so, told_ok}
use Rattle.dimension_ops.proofs.world.World.add_asked.Goals as goal

-- the sheets are those that are asked for, and break no rule
record IsRight (books : ℕ) (asked : List SheetProperties) (making : List Placed) : Type 0 where
  pub are : ArePlaced asked [] making
  pub none : first_broken (created_broken books asked making) ≡ None

right_of : (books : ℕ) (asked : List SheetProperties) (making placed : List Placed) → ArePlaced asked [] placed
    → Ok making ≡ judged_by (created_broken books asked placed) placed → IsRight books asked making
right_of books asked making placed are told =
    let (none, same) = told_ok (created_broken books asked placed) making placed told in
    subst (IsRight books asked) (sym same) (record { are = are; none = none })

right : (books count : ℕ) (asked : List SheetProperties) (making : List Placed) → count ≡ books
    → (placed : List Placed) × ArePlaced asked [] placed
    × (Ok making ≡ judged_by (created_broken count asked placed) placed)
    → IsRight books asked making
right books count asked making same (placed, are, told) =
    subst (λ n. IsRight n asked making) same (right_of count asked making placed are told)

pub add_made-requires-clause-can : goal.add_made-requires-clause-can
add_made-requires-clause-can c =
    let books = length c.args.self.now in
    let is = right books c.count.result c.args.asked.now c.in-Ok.making c.count.ensures.count c.in-Ok.ensures in
    can_be_made books c.args.asked.now c.in-Ok.making (book_id books) c.args.title.now c.args.owner.now is.none is.are

pub add_made-requires-clause-places : goal.add_made-requires-clause-places
add_made-requires-clause-places c =
    let books = length c.args.self.now in
    let is = right books c.count.result c.args.asked.now c.in-Ok.making c.count.ensures.count c.in-Ok.ensures in
    have_places books c.args.asked.now c.in-Ok.making is.none is.are

pub add_made-requires-clause-few : goal.add_made-requires-clause-few
add_made-requires-clause-few c =
    let books = length c.args.self.now in
    let is = right books c.count.result c.args.asked.now c.in-Ok.making c.count.ensures.count c.in-Ok.ensures in
    few_books books c.args.asked.now c.in-Ok.making is.none

pub returns-in_ok-id-in-Ok-clause-added : goal.returns-in_ok-id-in-Ok-clause-added
returns-in_ok-id-in-Ok-clause-added c =
    let books = length c.args.self.now in
    let is = right books c.count.result c.args.asked.now c.in-Ok.making c.count.ensures.count c.in-Ok.ensures in
    made_so c.books_made.ensures c.args.owner.now c.args.title.now c.args.asked.now c.args.self.now c.add_made.new.self
    c.in-Ok.making is.none is.are c.in_ok-id-in-Ok.ensures.added c.in_ok-id-in-Ok.id c.in_ok-id-in-Ok.ensures.id

pub returns-in-Err-clause-added : goal.returns-in-Err-clause-added
returns-in-Err-clause-added c =
    refused_so c.args.owner.now c.args.title.now c.args.asked.now c.args.self.now c.in-Err.refused
    (subst (λ n. IsUnlessNoMemory (λ told. (placed : List Placed) × ArePlaced c.args.asked.now [] placed
    × (told ≡ judged_by (created_broken n c.args.asked.now placed) placed)) (Err c.in-Err.refused))
    c.count.ensures.count
    c.in-Err.ensures)
