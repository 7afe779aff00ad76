-- What the checks of a text say, of the plain code
use Rattle.std.proofs.Common.{◌≡◌, ℕ, ◌≤◌, List, Bool, length, IfOk, Result, Ok, Err, sym, ap, ◌∙◌, subst, arith}
use Rattle.order_theory.specs.Basis.{Basis, IsSoundBasis}
use Rattle.order_theory.specs.Codes.{IsOrderBound}
use Rattle.order_domain.specs.declared.Point.{Point}
use Rattle.order_domain.specs.Domain.{Domain, AreOn}
use Rattle.eval_basis.specs.declared.checked.CheckRule.{CheckRule}
use Rattle.eval_basis.specs.Built.{IsBuilt}
use Rattle.eval_basis.specs.Rules.{checked_by}
use Rattle.order_bound.specs.declared.table.TableSays.{TableSays}
use Rattle.order_bound.specs.declared.table.TableSays.TheVariants.{Accepted, Refused}
use Rattle.order_bound.specs.TableChecks.{Says, SaysOfTable}
use Rattle.block_code.specs.Compiled.{Compiled, IsMade}
use Rattle.code_descriptor.specs.Parts.{Parts, IsDescriptor}
use Rattle.descriptor_code.specs.Codes.{domain_of, IsCodeOf}
use Rattle.descriptor_code.specs.PlainLaws.{IsPlain}
use Rattle.descriptor_code.proofs.Spaces.{bits_in}
use Rattle.agcode_top.specs.Steps.{SaysOf}

one-bound : (b : Basis) (marks : List Bool) (x y : ℕ) → IsOrderBound b marks x → IsOrderBound b marks y → x ≡ y
one-bound b marks x y h k =
    let xy : x ≤ y = subst (λ (v : ℕ). x ≤ v) k.reached.3 (h.least.at_most k.reached.0 k.reached.1 k.reached.2) in
    let yx : y ≤ x = subst (λ (v : ℕ). y ≤ v) h.reached.3 (k.least.at_most h.reached.0 h.reached.1 h.reached.2) in
    omega arith

says-at : (p : Parts) (c : Compiled) (text : List ℕ) (says : TableSays) → IsPlain p c → IsMade c → Says (domain_of p) p.modulus p.points p.rule text says →
    SaysOfTable c.basis c.marks text says → SaysOf p text says
says-at p c text (Accepted least) plain made h k =
    ((plain.table_is text).0 (record { bound = least; is_bound = k.0; is = k.1 }), one-bound c.basis c.marks least c.bound k.0 made.bound ∙ plain.bound_is)
says-at p c text (Refused line) plain made h k = record { not_table = λ t. k ((plain.table_is text).1 t); refused = h }

pub says-plain : {E : Type 0} (p : Parts) (c : Compiled) (r : Result TableSays E) (d : Domain) (modulus : ℕ) (points : List Point) (rule : CheckRule) (text : List ℕ) →
    d ≡ domain_of p → modulus ≡ p.modulus → points ≡ p.points → rule ≡ p.rule → IsPlain p c → IsCodeOf p c → IsMade c → IfOk r (Says d modulus points rule text) →
    IfOk r (λ says. (b : Basis) → IsBuilt d modulus points b → IsSoundBasis b → SaysOfTable b (checked_by b rule) text says) → IfOk r (SaysOf p text)
says-plain p c (Err e) d modulus points rule text ed em ep er plain is_code made h k = tt
says-plain p c (Ok says) d modulus points rule text ed em ep er plain is_code made h k =
    let h1 : Says (domain_of p) modulus points rule text says = subst (λ (x : Domain). Says x modulus points rule text says) ed h in
    let h2 : Says (domain_of p) p.modulus points rule text says = subst (λ (x : ℕ). Says (domain_of p) x points rule text says) em h1 in
    let h3 : Says (domain_of p) p.modulus p.points rule text says = subst (λ (x : List Point). Says (domain_of p) p.modulus x rule text says) ep h2 in
    let h4 : Says (domain_of p) p.modulus p.points p.rule text says = subst (λ (x : CheckRule). Says (domain_of p) p.modulus p.points x text says) er h3 in
    let b1 : IsBuilt d p.modulus p.points c.basis = subst (λ (x : Domain). IsBuilt x p.modulus p.points c.basis) (sym ed) is_code.built in
    let b2 : IsBuilt d modulus p.points c.basis = subst (λ (x : ℕ). IsBuilt d x p.points c.basis) (sym em) b1 in
    let b3 : IsBuilt d modulus points c.basis = subst (λ (x : List Point). IsBuilt d modulus x c.basis) (sym ep) b2 in
    let k1 : SaysOfTable c.basis c.marks text says = subst (λ (marks : List Bool). SaysOfTable c.basis marks text says) (ap (checked_by c.basis) er ∙ sym is_code.marks) (k c.basis b3 made.sound) in
    says-at p c text says plain made h4 k1

-- the points are on the space, and there is one
pub points-on : (p : Parts) (d : Domain) (modulus : ℕ) (points : List Point) → AreOn (domain_of p) p.modulus p.points → d ≡ domain_of p → modulus ≡ p.modulus → points ≡ p.points → AreOn d modulus points
points-on p d modulus points a ed em ep =
    let b : AreOn d p.modulus p.points = subst (λ (x : Domain). AreOn x p.modulus p.points) (sym ed) a in
    let e : AreOn d modulus p.points = subst (λ (x : ℕ). AreOn d x p.points) (sym em) b in
    subst (λ (x : List Point). AreOn d modulus x) (sym ep) e

pub same-bits : (p : Parts) (c : Compiled) (d : Domain) (bits : ℕ) → IsDescriptor p → IsPlain p c → d ≡ domain_of p → bits ≡ c.basis.bits → bits ≡ d.bits
same-bits p c d bits sound plain ed e = e ∙ plain.bits_are ∙ sym (bits_in p sound) ∙ sym (ap (λ (x : Domain). x.bits) ed)

pub some-points : (p : Parts) (c : Compiled) (points : List Point) → IsPlain p c → IsMade c → points ≡ p.points → 1 ≤ length points
some-points p c points plain made e =
    let n : length points ≡ c.basis.n = ap length e ∙ sym plain.n_is in
    let some : 1 ≤ c.basis.n = made.sound.sound.shape.some_members in
    omega (arith, n, some)
