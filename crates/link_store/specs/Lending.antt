-- What the lists are once an item that they lent was given back.
use Rattle.std.specs.Prelude.{ℕ, List}
use Rattle.std.specs.Borrow.{Fml, RattleType, MutBor, Lends}
use Rattle.link_store.specs.Lists.{with_item_at}
use Rattle.link_store.specs.contracts.lists.Links.{the_row}

-- the node has the last item that was written
abbrev pub lends_item : (T : RattleType) → MutBor (List (List (ℕ × T.Denot))) → ℕ → MutBor T.Denot → Fml
lends_item T lists node item = Lends (the_row T) T lists item (with_item_at lists.now node)
