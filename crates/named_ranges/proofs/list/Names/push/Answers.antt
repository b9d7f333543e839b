use Rattle.std.proofs.Common.{◌≡◌, ◌∙◌, ◌++◌, ◌∷◌, [], ap, List, None, sym, subst}
use Rattle.std.specs.String.{string_bytes}
use Rattle.std.proofs.lemmas.List.{map_push}
use Rattle.indexmap.proofs.CallerLemmas.{insert_entry-new}
use Rattle.named_ranges.specs.Listed.{with_id, with_name}
use Rattle.named_ranges.specs.Kept.{Entry, ranges_of, IsKept}
use Rattle.named_ranges.proofs.Entries.{lookup-with_id, IsKept-push}
use Rattle.named_ranges.proofs.list.Names.push.Goals as goal

key_is : (c : goal.Joined-branch-3) → string_bytes c.in_ok-key.key ≡ c.args.range.id
key_is c = c.in_ok-key.ensures.ok ∙ c.as_str.ensures

unused : (c : goal.Joined-branch-3) → with_id c.args.range.id (ranges_of c.self.inside.by_id.entries) ≡ None
unused c = ap (with_id c.args.range.id) c.self.view_is ∙ c.requires.id

entries_are : (c : goal.Joined-branch-3)
    → c.insert.new.self.entries ≡ c.self.inside.by_id.entries ++ (c.in_ok-key.key, c.args.range) ∷ []
entries_are c =
    c.in_ok-insert.ensures.entries
    ∙ insert_entry-new _ c.self.inside.by_id c.in_ok-key.key c.args.range
    (lookup-with_id (string_bytes c.in_ok-key.key) c.self.inside.by_id.entries c.self.invariant.keyed
    ∙ ap (λ id. with_id id (ranges_of c.self.inside.by_id.entries)) (key_is c) ∙ unused c)

pub invariant_of-self-2 : goal.invariant_of-self-2
invariant_of-self-2 c =
    subst (λ (entries : List Entry). IsKept entries) (sym (entries_are c))
    (IsKept-push c.self.inside.by_id.entries (c.in_ok-key.key, c.args.range) c.self.invariant (key_is c)
    (unused c) (ap (with_name c.args.range.name) c.self.view_is ∙ c.requires.name))

pub returns-clause-added : goal.returns-clause-added
returns-clause-added c =
    ap ranges_of (entries_are c)
    ∙ map_push (λ (entry : Entry). entry.1) c.self.inside.by_id.entries (c.in_ok-key.key, c.args.range)
    ∙ ap (λ ranges. ranges ++ c.args.range ∷ []) c.self.view_is
