use Rattle.std.proofs.Common.{◌≡◌, ◌<◌, ◌%◌, IfOk, ap, subst, ◌∙◌, arith}
use Rattle.update_rules.proofs.PartsOfTwo.{parts-one, parts-two, parts-two_turned}
use Rattle.update_rules.proofs.shards.parts_of_two.Goals as goal

pub returns-then-at-other : goal.returns-then-at-other
returns-then-at-other c =
    subst (λ ps. IfOk c.one_part.result (λ parts. parts ≡ ps))
    (parts-one c.args.shards c.requires c.args.first.now c.args.second.now (c.at.inside.0 % c.args.shards) (c.other.inside.0 % c.args.shards)
    (ap (λ v. v % c.args.shards) (c.at.view_is ∙ c.vertex.ensures)) (ap (λ v. v % c.args.shards) (c.other.view_is ∙ c.vertex-2.ensures)) c.if-at-other.true)
    c.one_part.ensures

pub returns-then-at-other-2 : goal.returns-then-at-other-2
returns-then-at-other-2 c =
    subst (λ ps. IfOk c.two_parts.result (λ parts. parts ≡ ps))
    (parts-two c.args.shards c.requires c.args.first.now c.args.second.now (c.at.inside.0 % c.args.shards) (c.other.inside.0 % c.args.shards)
    (ap (λ v. v % c.args.shards) (c.at.view_is ∙ c.vertex.ensures)) (ap (λ v. v % c.args.shards) (c.other.view_is ∙ c.vertex-2.ensures)) c.if-at-other-2.true)
    c.two_parts.ensures

pub returns : goal.returns
returns c =
    let less : (c.other.inside.0 % c.args.shards) < (c.at.inside.0 % c.args.shards) = omega (arith, c.if-at-other.false, c.if-at-other-2.false) in
    subst (λ ps. IfOk c.two_parts-2.result (λ parts. parts ≡ ps))
    (parts-two_turned c.args.shards c.requires c.args.first.now c.args.second.now (c.at.inside.0 % c.args.shards) (c.other.inside.0 % c.args.shards)
    (ap (λ v. v % c.args.shards) (c.at.view_is ∙ c.vertex.ensures)) (ap (λ v. v % c.args.shards) (c.other.view_is ∙ c.vertex-2.ensures)) less)
    c.two_parts-2.ensures
