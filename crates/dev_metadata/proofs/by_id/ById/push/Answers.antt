use Rattle.std.proofs.Common.{◌≡◌, ◌∙◌, ◌++◌, ◌∷◌, [], ap, false, List, refl, sym, subst}
use Rattle.std.proofs.lemmas.List.{map_push}
use Rattle.indexmap.proofs.CallerLemmas.{insert_entry-new}
use Rattle.dev_metadata.specs.Listed.{has_id, with_id}
use Rattle.dev_metadata.specs.Kept.{Entry, items_of, IsKept}
use Rattle.dev_metadata.proofs.Entries.{lookup-with_id, IsKept-push, none_of}
use Rattle.dev_metadata.proofs.by_id.ById.push.Goals as goal

unused : (c : goal.Joined-branch-2) → has_id (items_of c.self.inside.by_id.entries) c.args.item.id ≡ false
unused c = ap (λ items. has_id items c.args.item.id) c.self.view_is ∙ c.requires

entries_are : (c : goal.Joined-branch-2)
    → c.insert.new.self.entries ≡ c.self.inside.by_id.entries ++ (c.args.item.id, c.args.item) ∷ []
entries_are c =
    c.in_ok-insert.ensures.entries
    ∙ insert_entry-new _ c.self.inside.by_id c.args.item.id c.args.item
    (lookup-with_id c.args.item.id c.self.inside.by_id.entries c.self.invariant.keyed
    ∙ none_of (with_id c.args.item.id (items_of c.self.inside.by_id.entries)) (unused c))

pub invariant_of-self-2 : goal.invariant_of-self-2
invariant_of-self-2 c =
    subst (λ (entries : List Entry). IsKept entries) (sym (entries_are c))
    (IsKept-push c.self.inside.by_id.entries (c.args.item.id, c.args.item) c.self.invariant refl (unused c))

pub returns-clause-added : goal.returns-clause-added
returns-clause-added c =
    ap items_of (entries_are c)
    ∙ map_push (λ (entry : Entry). entry.1) c.self.inside.by_id.entries (c.args.item.id, c.args.item)
    ∙ ap (λ items. items ++ c.args.item ∷ []) c.self.view_is
