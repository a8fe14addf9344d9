use Rattle.std.proofs.Common.{◌≡◌, ◌<◌, length, sym, ap, ◌∙◌, subst, inl, arith, rules}
use Rattle.std.specs.List.{AllByRecursion}
use Rattle.polynomials.specs.Monomials.{monomials}
use Rattle.polynomials.proofs.Counting.{monomials_counted}
use Rattle.words.specs.Left.{monomials_left}
use Rattle.words.proofs.Gathering.{Gathering, gathering_none}
use Rattle.words.proofs.code.Code.write_monomials.Goals as goal

pub loop-place-init : goal.loop-place-init
loop-place-init c =
    let code = c.args.self.now in
    let start = c.into_iter-place-iterator.result in
    let zero : start.count ≡ 0 = search rules in
    let same : start.iter ≡ c.monomials.result = search rules in
    let left : monomials_left start.iter ≡ monomials code.variables code.order = ap monomials_left same ∙ c.monomials.ensures.left in
    let small : AllByRecursion (λ mono. mono < 256) (monomials_left start.iter)
    = subst (λ s. AllByRecursion (λ mono. mono < 256) (monomials_left s)) (sym same) c.monomials.ensures.small in (
      (tt, tt, inl (omega (arith, zero, ap (λ s. length (monomials_left s)) same, c.monomials.ensures.bound))),
      tt,
      small,
      subst (Gathering _ _ _ _ _ _) (sym zero) (gathering_none _ _ _ _ _ left),
    )

pub returns-clause-few : goal.returns-clause-few
returns-clause-few c =
    let code = c.args.self.now in
    omega (arith, c.monomials.ensures.bound, ap length c.monomials.ensures.left, monomials_counted code.variables code.order)
