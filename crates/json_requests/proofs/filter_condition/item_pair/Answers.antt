use Rattle.std.proofs.Common.{Some, None}
use Rattle.serde_json.specs.View.{view}
use Rattle.json_requests.proofs.FilterLemmas.{pair_is}
use Rattle.json_requests.proofs.filter_condition.item_pair.Goals as goal

pub returns-in-Some-sole_item : goal.returns-in-Some-sole_item
returns-in-Some-sole_item c =
    pair_is c.args.values.items c.pop.new.self.items c.in-Some.last (Some (view c.in-Some-sole_item.first))
    c.in-Some-sole_item.ensures c.in-Some.ensures.items

pub returns-in-None-sole_item : goal.returns-in-None-sole_item
returns-in-None-sole_item c =
    pair_is c.args.values.items c.pop.new.self.items c.in-Some.last None c.in-None-sole_item.ensures
    c.in-Some.ensures.items
