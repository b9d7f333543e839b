use Rattle.std.proofs.Common.{List, ℕ, rules, sym, subst}
use Rattle.std.specs.Prelude.{Some}
use Rattle.grid_range.specs.declared.band.Band.TheVariants.{Span}
use Rattle.a1_notation.specs.declared.a1.Part.TheVariants.{Cells}
use Rattle.a1_notation.specs.Range.{Names}
use Rattle.a1_notation.proofs.CanonicalTexts.{canonical_reads_back}
use Rattle.a1_notation.proofs.writing.write_a1.Goals as goal

pub returns-clause-canonical : goal.returns-clause-canonical
returns-clause-canonical c = search rules

pub returns-clause-reads_back : goal.returns-clause-reads_back
returns-clause-reads_back c =
    let IsRead : List ℕ → Type 0 =
    λ text. Names 3 text (record {
      sheet = Some c.args.title.now;
      part = Cells (Span c.args.rows.0 c.args.rows.1)
          (Span c.args.cols.0 c.args.cols.1);
    }) in
    subst IsRead (sym (returns-clause-canonical c))
    (canonical_reads_back c.args.title.now c.args.rows c.args.cols c.requires.title c.requires.rows c.requires.cols)
