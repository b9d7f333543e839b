use Rattle.std.proofs.Common.{inr, refl, sym, ◌∙◌}
use Rattle.csv.specs.Reading.{Reached, strip_bom}
use Rattle.users_file.proofs.rows.rows_of.Goals as goal

pub returns : goal.returns
unfolding Reached
returns c =
    let made = c.from_reader.ensures in
    let flexible = c.flexible.ensures in
    let unnamed = c.has_headers.ensures in
    let reader = c.into_byte_records.ensures.rdr in
    rw reader record {
      untrimmed = rw (flexible, unnamed) at made.trim ∙ c.new.ensures.trim;
      ready = inr (inr (rw (flexible, unnamed) at made.has_headers, made.headers));
      turns = c.into_byte_records.ensures.left;
      config = rw (flexible, unnamed) at made.config ∙ c.new.ensures.config;
      rest = strip_bom c.args.bytes.now;
      source = made.source;
      reached = (sym made.state, refl);
    }
