use Rattle.std.proofs.Common.{rules, lit<, string_bytes}
use Rattle.std.specs.List.{flat_map}
use Rattle.std.proofs.lemmas.Str.Pattern.{split_parts}
use Rattle.a1_notation.specs.Quoted.{doubled}
use Rattle.a1_notation.proofs.Titles.{doubled_more, doubled_end}
use Rattle.a1_notation.proofs.title.quoted.Goals as goal

pub loop-plain-preserved : goal.loop-plain-preserved
loop-plain-preserved c =
    let parts =
    rw c.in-Some.is at (split_parts 39 c.loop-plain.rest.now c.split_once.result c.split_once.ensures.cases
    (lit< tt)) in
    record {
      utf8 = search rules;
      written =
          doubled_more (string_bytes c.loop-plain.text) (string_bytes c.push_str.new.self)
          (string_bytes c.push_str-in-Some.new.self) c.loop-plain.rest.now c.in-Some.plain.now c.in-Some.behind.now _
          c.in_ok-push_str.ensures.bytes c.in_ok-push_str-2.ensures.bytes parts.0 parts.1
          c.loop-plain.invariant.written;
    }

pub returns : goal.returns
returns c =
    let none =
    rw c.in_default.is at (split_parts 39 c.loop-plain.rest.now c.split_once.result c.split_once.ensures.cases
    (lit< tt)) in
    doubled_end (string_bytes c.loop-plain.text) (string_bytes c.push_str-2.new.self)
    (string_bytes c.push.new.self) c.loop-plain.rest.now
    (flat_map (doubled 39) c.args.title.now) c.in_ok-push_str-3.ensures.bytes
    (rw (c.in_ok-push.ensures.ascii (lit< tt)) at c.in_ok-push.ensures.bytes) none c.loop-plain.invariant.written
