use Rattle.std.specs.Prelude.{codes}
use Rattle.formula_reader.specs.declared.tokens.token.Operator.TheVariants.{Equal, NotEqual, Less, AtMost, Greater, AtLeast, Join, Add, Subtract, Multiply, Divide}
use Rattle.formula_reader.specs.declared.tokens.token.Token.TheVariants.{Lost, Operator, Open, Close, Comma}
use Rattle.formula_reader.specs.Form.{Sign}
use Rattle.formula_reader.proofs.Firsts.{tried_first, tried_next, tried_all}
use Rattle.formula_reader.proofs.tokens.sign.read_sign.Goals as goal

-- one sign after another is tried
pub returns : goal.returns
returns c =
    let text = c.args.text.now in
    let t1 = tried_first (Sign (codes "#REF!") Lost) text c.spelled.result c.spelled.ensures in
    let t2 = tried_next
    (Sign (codes "<>") (Operator NotEqual)) text c.spelled.result c.spelled-2.result c.or.result c.or.ensures t1
    c.spelled-2.ensures in
    let t3 = tried_next
    (Sign (codes "<=") (Operator AtMost)) text c.or.result c.spelled-3.result c.or-2.result c.or-2.ensures t2
    c.spelled-3.ensures in
    let t4 = tried_next
    (Sign (codes ">=") (Operator AtLeast)) text c.or-2.result c.spelled-4.result c.or-3.result c.or-3.ensures t3
    c.spelled-4.ensures in
    let t5 = tried_next
    (Sign (codes "<") (Operator Less)) text c.or-3.result c.spelled-5.result c.or-4.result c.or-4.ensures t4
    c.spelled-5.ensures in
    let t6 = tried_next
    (Sign (codes ">") (Operator Greater)) text c.or-4.result c.spelled-6.result c.or-5.result c.or-5.ensures t5
    c.spelled-6.ensures in
    let t7 = tried_next
    (Sign (codes "=") (Operator Equal)) text c.or-5.result c.spelled-7.result c.or-6.result c.or-6.ensures t6
    c.spelled-7.ensures in
    let t8 = tried_next
    (Sign (codes "+") (Operator Add)) text c.or-6.result c.spelled-8.result c.or-7.result c.or-7.ensures t7
    c.spelled-8.ensures in
    let t9 = tried_next
    (Sign (codes "-") (Operator Subtract)) text c.or-7.result c.spelled-9.result c.or-8.result c.or-8.ensures t8
    c.spelled-9.ensures in
    let t10 = tried_next
    (Sign (codes "*") (Operator Multiply)) text c.or-8.result c.spelled-10.result c.or-9.result c.or-9.ensures t9
    c.spelled-10.ensures in
    let t11 = tried_next
    (Sign (codes "/") (Operator Divide)) text c.or-9.result c.spelled-11.result c.or-10.result c.or-10.ensures t10
    c.spelled-11.ensures in
    let t12 = tried_next
    (Sign (codes "&") (Operator Join)) text c.or-10.result c.spelled-12.result c.or-11.result c.or-11.ensures t11
    c.spelled-12.ensures in
    let t13 = tried_next
    (Sign (codes "(") Open) text c.or-11.result c.spelled-13.result c.or-12.result c.or-12.ensures t12
    c.spelled-13.ensures in
    let t14 = tried_next
    (Sign (codes ")") Close) text c.or-12.result c.spelled-14.result c.or-13.result c.or-13.ensures t13
    c.spelled-14.ensures in
    let t15 = tried_next
    (Sign (codes ",") Comma) text c.or-13.result c.spelled-15.result c.or-14.result c.or-14.ensures t14
    c.spelled-15.ensures in
    tried_all text c.or-14.result t15
