use Rattle.std.proofs.Common.{◌≡◌, ◌≤◌, ◌^◌, ◌-◌, arith}
use Rattle.theory_affine.specs.Monomials.{top_degree, degree}
use Rattle.affine_domain.specs.Space.{exponents}
use Rattle.affine_domain.proofs.Parts.{parts, tail_small, second_small, index_small, listed_parts}
use Rattle.affine_domain.proofs.domain.AffineDomain.exps.Goals as goal

pub split-degree-requires-clause-small : goal.split-degree-requires-clause-small
split-degree-requires-clause-small c =
    let d = c.args.self.now in
    index_small (2 ^ d.bits) d.vars c.top.result c.args.i d.is_space.vars_least c.requires c.top.ensures.top c.top.ensures.small

pub split-tail-requires-clause-small : goal.split-tail-requires-clause-small
split-tail-requires-clause-small c = λ low.
    let d = c.args.self.now in
    tail_small d.vars c.args.i c.split-degree.result.0 c.split-degree.result.1 d.is_space.vars_least c.split-degree.ensures.degree c.split-degree.ensures.rest c.split-degree.ensures.few low d.is_space.vars_most

pub split-of_z-requires-clause-small : goal.split-of_z-requires-clause-small
split-of_z-requires-clause-small c = λ low.
    let d = c.args.self.now in
    second_small d.vars c.args.i c.split-degree.result.1 c.split-tail.result.0 c.split-tail.result.1 d.is_space.vars_least d.is_space.vars_most c.split-degree.ensures.rest
    c.split-tail.ensures.degree c.split-tail.ensures.rest c.split-tail.ensures.few

pub overflow_sub-of_x : goal.overflow_sub-of_x
overflow_sub-of_x c =
    let d = c.args.self.now in
    (parts d.vars c.args.i c.split-degree.result.0 c.split-degree.result.1 c.split-tail.result.0 c.split-tail.result.1 c.saturating_sub.result c.split-of_z.result.0
    d.is_space.vars_least d.is_space.vars_most c.split-degree.ensures.degree c.split-degree.ensures.rest c.split-tail.ensures.degree c.split-tail.ensures.rest c.saturating_sub.ensures c.split-of_z.ensures.degree).tail_most

pub overflow_sub-of_y : goal.overflow_sub-of_y
overflow_sub-of_y c =
    let d = c.args.self.now in
    (parts d.vars c.args.i c.split-degree.result.0 c.split-degree.result.1 c.split-tail.result.0 c.split-tail.result.1 c.saturating_sub.result c.split-of_z.result.0
    d.is_space.vars_least d.is_space.vars_most c.split-degree.ensures.degree c.split-degree.ensures.rest c.split-tail.ensures.degree c.split-tail.ensures.rest c.saturating_sub.ensures c.split-of_z.ensures.degree).z_most

pub returns-clause-exponents : goal.returns-clause-exponents
returns-clause-exponents c =
    let d = c.args.self.now in
    (parts d.vars c.args.i c.split-degree.result.0 c.split-degree.result.1 c.split-tail.result.0 c.split-tail.result.1 c.saturating_sub.result c.split-of_z.result.0
    d.is_space.vars_least d.is_space.vars_most c.split-degree.ensures.degree c.split-degree.ensures.rest c.split-tail.ensures.degree c.split-tail.ensures.rest c.saturating_sub.ensures c.split-of_z.ensures.degree).is

pub returns-clause-listed : goal.returns-clause-listed
returns-clause-listed c =
    let d = c.args.self.now in
    listed_parts d.bits d.vars c.args.i
    (exponents (c.split-degree.result.0 - c.split-tail.result.0) (c.split-tail.result.0 - c.split-of_z.result.0) c.split-of_z.result.0) d.is_space c.requires (returns-clause-exponents c)

pub returns-clause-small : goal.returns-clause-small
returns-clause-small c =
    let d = c.args.self.now in
    let low : degree (exponents (c.split-degree.result.0 - c.split-tail.result.0) (c.split-tail.result.0 - c.split-of_z.result.0) c.split-of_z.result.0) ≤ top_degree (2 ^ d.bits) d.vars =
    (returns-clause-listed c).low in
    let top : c.top.result ≡ top_degree (2 ^ d.bits) d.vars = c.top.ensures.top in
    let few : c.top.result ≤ 510 = c.top.ensures.small in
    omega arith
