use Rattle.std.proofs.Common.{⊎_elim, length, ap, ◌∙◌, sym, refl}
use Rattle.std.proofs.lemmas.Bool.{false≢true}
use Rattle.luau_cli.specs.Answer.{IsDone}
use Rattle.luau_cli.specs.Delivery.{whole, no_output, no_report, refused}
use Rattle.luau_cli.proofs.Deliveries.{gains, gains_front, untouched}
use Rattle.luau_cli.proofs.reply.Reply.deliver.Goals as goal

pub returns-in-Err-WriteFault : goal.returns-in-Err-WriteFault
returns-in-Err-WriteFault g c =
    let e = c.in-Err-WriteFault.ensures in
    no_output
    (⊎_elim (λ ran. ran) (λ r. let told = (e.nothing (ap length (c.as_slice.ensures.value ∙ r.1))).0 in cc) c.requires)
    (gains_front _ _ _ c.as_slice.ensures.value e.err e.fault)
    (refl, refl)

pub returns-in-Ok-put_all : goal.returns-in-Ok-put_all
returns-in-Ok-put_all g c =
    whole
    (gains _ _ _ c.as_slice.ensures.value c.in-Ok.ensures.ok c.in-Ok.ensures.no_fault)
    (gains _ _ _ c.as_slice-2.ensures.value c.in-Ok-put_all.ensures.ok c.in-Ok-put_all.ensures.no_fault)

pub returns-in-Err-WriteFault-put_all : goal.returns-in-Err-WriteFault-put_all
returns-in-Err-WriteFault-put_all g c =
    no_report
    (c.is_done.ensures.0 c.if-is_done.true)
    (gains _ _ _ c.as_slice.ensures.value c.in-Ok.ensures.ok c.in-Ok.ensures.no_fault)
    (gains_front _ _ _ c.as_slice-2.ensures.value c.in-Err-WriteFault-put_all.ensures.err c.in-Err-WriteFault-put_all.ensures.fault)

pub returns-in-Err-WriteFault-2 : goal.returns-in-Err-WriteFault-2
returns-in-Err-WriteFault-2 g c =
    let ran_not : IsDone c.args.self.now.status → ⊥ = λ ran. false≢true (sym c.if-is_done.false ∙ c.is_done.ensures.1 ran) in
    refused
    (⊎_elim (λ ran. absurd (ran_not ran)) (λ r. r.0) c.requires)
    (untouched _ _ (⊎_elim (λ ran. absurd (ran_not ran)) (λ r. r.1) c.requires)
    (gains _ _ _ c.as_slice.ensures.value c.in-Ok.ensures.ok c.in-Ok.ensures.no_fault))
    (gains_front _ _ _ c.as_slice-2.ensures.value c.in-Err-WriteFault-put_all.ensures.err c.in-Err-WriteFault-put_all.ensures.fault)
