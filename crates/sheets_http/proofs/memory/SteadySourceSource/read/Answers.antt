use Rattle.std.proofs.Common.{◌≡◌, ◌≤◌, ◌-◌, ◌∙◌, Some, length, take, drop, sym, ap, arith}
use Rattle.sheets_http.specs.Memory.{SourceBytes}
use Rattle.sheets_http.proofs.ListLemmas.{copied_then_rest}
use Rattle.sheets_http.proofs.memory.SteadySourceSource.read.Goals as goal

pub returns-clause-bytes : goal.returns-clause-bytes
returns-clause-bytes c =
    let few : c.min-count.result ≤ length (take (length c.as_slice.result.now - c.self.inside.start)
    (drop c.self.inside.start c.as_slice.result.now)) = omega arith in
    let left : drop c.self.inside.start c.self.inside.bytes ≡ c.args.self.now.left =
    ap (λ (s : SourceBytes). s.left) c.self.view_is in
    ap Some (sym left ∙ copied_then_rest c.self.inside.bytes c.as_slice.result.now c.copy_from_slice.new.self
    (drop c.min-count.result c.args.into.now) c.self.inside.start c.min-count.result
    c.as_slice.ensures few c.copy_from_slice.ensures.after)
