use Rattle.std.proofs.Common.{rules, string_bytes}
use Rattle.std.proofs.lemmas.Str.Pattern.{split_parts, strip_prefix_char}
use Rattle.a1_notation.proofs.QuoteEnds.{up_to_quote_is_one}
use Rattle.a1_notation.proofs.Quotes.{closing, doubled_read, unclosed}
use Rattle.a1_notation.proofs.quoted.read_quoted.Goals as goal

pub returns-in-None-clause-read : goal.returns-in-None-clause-read
returns-in-None-clause-read c =
    let parts =
    rw c.in-Some.is at (split_parts c.args.quote c.loop-plain.rest.now c.split_once.result c.split_once.ensures.cases
    c.requires.ascii) in
    let last =
    rw c.in-None.is at (strip_prefix_char c.args.quote c.in-Some.behind.now c.strip_prefix.result
    c.strip_prefix.ensures.cases c.requires.ascii) in
    closing c.args.quote c.args.inside.now (string_bytes c.loop-plain.content) (string_bytes c.push_str.new.self)
    c.loop-plain.rest.now c.in-Some.plain.now c.in-Some.behind.now c.requires.some c.in_ok-push_str.ensures.bytes
    parts.0 parts.1 c.loop-plain.invariant.read last

pub returns-in-None-clause-one : goal.returns-in-None-clause-one
returns-in-None-clause-one c content rest is =
    up_to_quote_is_one c.args.quote c.args.inside.now content rest
    (string_bytes c.push_str.new.self) c.in-Some.behind.now
    is (returns-in-None-clause-read c)

pub loop-plain-preserved : goal.loop-plain-preserved
loop-plain-preserved c =
    let parts =
    rw c.in-Some.is at (split_parts c.args.quote c.loop-plain.rest.now c.split_once.result c.split_once.ensures.cases
    c.requires.ascii) in
    let again =
    rw c.in-Some-strip_prefix.is at
    (strip_prefix_char c.args.quote c.in-Some.behind.now c.strip_prefix.result c.strip_prefix.ensures.cases
    c.requires.ascii) in
    let pushed = c.in_ok-push-in-Some-strip_prefix.ensures in
    record {
      utf8 = search rules;
      read =
          doubled_read c.args.quote c.args.inside.now (string_bytes c.loop-plain.content)
          (string_bytes c.push_str.new.self)
          (string_bytes c.push.new.self) c.loop-plain.rest.now c.in-Some.plain.now c.in-Some.behind.now
          c.in-Some-strip_prefix.more.now c.in_ok-push_str.ensures.bytes
          (rw (pushed.ascii c.requires.ascii) at pushed.bytes)
          parts.0 parts.1 again c.loop-plain.invariant.read;
    }

pub returns-clause-none : goal.returns-clause-none
returns-clause-none c =
    let none =
    rw c.in_default.is at
    (split_parts c.args.quote c.loop-plain.rest.now c.split_once.result c.split_once.ensures.cases c.requires.ascii) in
    unclosed c.args.quote c.args.inside.now
    (string_bytes c.loop-plain.content) c.loop-plain.rest.now none c.loop-plain.invariant.read
