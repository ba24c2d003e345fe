use Rattle.std.proofs.Common.{refl, sym}
use Rattle.std.proofs.lemmas.Result.{err_from_is_err_and}
use Rattle.parse_steps.specs.declared.classes.Suffix.TheVariants as class
use Rattle.expression_parser.proofs.SuffixRuns.{no_suffix_yet, one_suffix, no_further, all_suffixes, less_left}
use Rattle.expression_parser.proofs.grammar.Grammar.suffixes.Goals as goal

pub loop-prefix-init : goal.loop-prefix-init
loop-prefix-init g c = no_suffix_yet c.args.self.now.tokens.now c.args.self.now.room c.args.begin c.args.first c.requires.nest

pub returns-in-Nothing : goal.returns-in-Nothing
returns-in-Nothing g c =
    all_suffixes c.args.self.now.tokens.now c.args.self.now.room c.args.begin c.args.first c.loop-prefix.prefix c.loop-prefix.invariant
    (sym c.in-Nothing.ensures.value)

-- Member
pub returns-in_err-prefix-in-Member : goal.returns-in_err-prefix-in-Member
returns-in_err-prefix-in-Member g c =
    let p = err_from_is_err_and c.from_residual.result c.from_residual.ensures.1 in
    rw (p.1, p.2) (no_further c.args.self.now.tokens.now c.args.self.now.room c.args.begin c.args.first c.loop-prefix.prefix
    c.in_err-prefix-in-Member.field-0.0 c.loop-prefix.invariant c.in_err-prefix-in-Member.ensures)

pub loop-prefix-preserved-in_ok-prefix-in-Member : goal.loop-prefix-preserved-in_ok-prefix-in-Member
loop-prefix-preserved-in_ok-prefix-in-Member g c =
    one_suffix c.args.self.now.tokens.now c.args.self.now.room c.args.begin c.args.first c.loop-prefix.prefix
    c.in_ok-prefix-in-Member.prefix c.loop-prefix.invariant c.in_ok-prefix-in-Member.ensures

pub loop-prefix-smaller-in_ok-prefix-in-Member : goal.loop-prefix-smaller-in_ok-prefix-in-Member
loop-prefix-smaller-in_ok-prefix-in-Member g c =
    less_left c.args.self.now.tokens.now c.args.self.now.room c.args.begin c.loop-prefix.prefix c.in_ok-prefix-in-Member.prefix
    class.Member c.in-Member.ensures.value refl c.in_ok-prefix-in-Member.ensures

-- Index
pub returns-in_err-prefix-in-Index : goal.returns-in_err-prefix-in-Index
returns-in_err-prefix-in-Index g c =
    let p = err_from_is_err_and c.from_residual-in_err-prefix-in-Index.result c.from_residual-in_err-prefix-in-Index.ensures.1 in
    rw (p.1, p.2) (no_further c.args.self.now.tokens.now c.args.self.now.room c.args.begin c.args.first c.loop-prefix.prefix
    c.in_err-prefix-in-Index.field-0.0 c.loop-prefix.invariant c.in_err-prefix-in-Index.ensures)

pub loop-prefix-preserved-in_ok-prefix-in-Index : goal.loop-prefix-preserved-in_ok-prefix-in-Index
loop-prefix-preserved-in_ok-prefix-in-Index g c =
    one_suffix c.args.self.now.tokens.now c.args.self.now.room c.args.begin c.args.first c.loop-prefix.prefix
    c.in_ok-prefix-in-Index.prefix c.loop-prefix.invariant c.in_ok-prefix-in-Index.ensures

pub loop-prefix-smaller-in_ok-prefix-in-Index : goal.loop-prefix-smaller-in_ok-prefix-in-Index
loop-prefix-smaller-in_ok-prefix-in-Index g c =
    less_left c.args.self.now.tokens.now c.args.self.now.room c.args.begin c.loop-prefix.prefix c.in_ok-prefix-in-Index.prefix class.Index
    c.in-Index.ensures.value refl c.in_ok-prefix-in-Index.ensures

-- Method
pub returns-in_err-prefix-in-Method : goal.returns-in_err-prefix-in-Method
returns-in_err-prefix-in-Method g c =
    let p = err_from_is_err_and c.from_residual-in_err-prefix-in-Method.result c.from_residual-in_err-prefix-in-Method.ensures.1 in
    rw (p.1, p.2) (no_further c.args.self.now.tokens.now c.args.self.now.room c.args.begin c.args.first c.loop-prefix.prefix
    c.in_err-prefix-in-Method.field-0.0 c.loop-prefix.invariant c.in_err-prefix-in-Method.ensures)

pub loop-prefix-preserved-in_ok-prefix-in-Method : goal.loop-prefix-preserved-in_ok-prefix-in-Method
loop-prefix-preserved-in_ok-prefix-in-Method g c =
    one_suffix c.args.self.now.tokens.now c.args.self.now.room c.args.begin c.args.first c.loop-prefix.prefix
    c.in_ok-prefix-in-Method.prefix c.loop-prefix.invariant c.in_ok-prefix-in-Method.ensures

pub loop-prefix-smaller-in_ok-prefix-in-Method : goal.loop-prefix-smaller-in_ok-prefix-in-Method
loop-prefix-smaller-in_ok-prefix-in-Method g c =
    less_left c.args.self.now.tokens.now c.args.self.now.room c.args.begin c.loop-prefix.prefix c.in_ok-prefix-in-Method.prefix
    class.Method c.in-Method.ensures.value refl c.in_ok-prefix-in-Method.ensures

-- Call
pub returns-in_err-prefix-in-Call : goal.returns-in_err-prefix-in-Call
returns-in_err-prefix-in-Call g c =
    let p = err_from_is_err_and c.from_residual-in_err-prefix-in-Call.result c.from_residual-in_err-prefix-in-Call.ensures.1 in
    rw (p.1, p.2) (no_further c.args.self.now.tokens.now c.args.self.now.room c.args.begin c.args.first c.loop-prefix.prefix
    c.in_err-prefix-in-Call.field-0.0 c.loop-prefix.invariant c.in_err-prefix-in-Call.ensures)

pub loop-prefix-preserved : goal.loop-prefix-preserved
loop-prefix-preserved g c =
    one_suffix c.args.self.now.tokens.now c.args.self.now.room c.args.begin c.args.first c.loop-prefix.prefix c.in_ok-prefix-in-Call.prefix
    c.loop-prefix.invariant c.in_ok-prefix-in-Call.ensures

pub loop-prefix-smaller : goal.loop-prefix-smaller
loop-prefix-smaller g c =
    less_left c.args.self.now.tokens.now c.args.self.now.room c.args.begin c.loop-prefix.prefix c.in_ok-prefix-in-Call.prefix class.Call
    c.in-Call.ensures.value refl c.in_ok-prefix-in-Call.ensures
