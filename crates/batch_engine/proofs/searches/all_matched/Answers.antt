use Rattle.std.proofs.Common.{◌∙◌, ap, ℕ}
use Rattle.std.specs.Prelude.{map}
use Rattle.std.specs.List.Sorted.{IsNonDecreasingBy}
use Rattle.std.proofs.lemmas.List.Elements.{All-weaker}
use Rattle.batch_engine.specs.Searches.{IsSearchDone, with_filters}
use Rattle.batch_engine.specs.declared.searches.Searched.{Searched}
use Rattle.batch_engine.proofs.Searching.{all_matched}
use Rattle.batch_engine.proofs.searches.all_matched.Goals as goal

pub with_filters-requires : goal.with_filters-requires
with_filters-requires c =
    All-weaker (IsSearchDone c.args.project.now c.args.book.now.metadata)
    (λ (one : Searched). IsNonDecreasingBy (λ (id : ℕ). id) one.ids) (λ one done. done.ascending) c.args.searched.now
    c.requires

pub returns : goal.returns
returns c =
    let searched = c.args.searched.now in
    record {
      ids = c.in_ok-ids.ids;
      in_order = c.in_ok-ids.ensures;
      all_are = c.in_ok-with_filters.ensures
          ∙ ap (map (with_filters searched)) (rw (c.as_slice.ensures, c.metadata.ensures) at c.in_ok-items.ensures)
          ∙ all_matched c.args.project.now c.args.book.now.metadata c.items_have_own_ids.ensures searched c.requires
          c.in_ok-ids.ids;
    }
