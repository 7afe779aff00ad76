use Rattle.std.proofs.Common.{rules, refl, Bool, true, false, ℕ, ◌≡◌, arith, List, length, nat_eq, MatchBool, drop, All, ◌<◌, ◌≢◌}
use Rattle.std.proofs.lemmas.Bool.Decides.{nat_tests}
use Rattle.order_bound.specs.Reading.{AreSymbols, symbols}
use Rattle.order_bound.proofs.Fields.{adding_starts, adding_more, adding_refused, adding_large, adding_ends, adding_longer}
use Rattle.order_bound.proofs.reader.add_symbols.Goals as goal

pub loop-init : goal.loop-init
loop-init c = adding_starts c.args.size c.args.n c.args.line.now c.args.at c.args.duals.now.items c.requires.place

pub number_at-requires : goal.number_at-requires
number_at-requires c = c.loop.invariant.within

pub returns-in_default : goal.returns-in_default
returns-in_default c =
    adding_large c.args.size c.args.n c.loop.counter c.args.line.now c.args.at c.loop.at c.args.duals.now.items c.loop.duals.items c.loop.invariant c.requires.size
    c.in-Some.symbol.value c.in-Some.symbol.end (omega arith) c.in-Some.ensures (omega arith)

pub returns-in_default-2 : goal.returns-in_default-2
returns-in_default-2 c =
    adding_refused c.args.size c.args.n c.loop.counter c.args.line.now c.args.at c.loop.at c.args.duals.now.items c.loop.duals.items c.loop.invariant c.requires.size
    (omega arith) c.in_default.ensures

pub loop-preserved : goal.loop-preserved
loop-preserved c =
    adding_more c.args.size c.args.n c.loop.counter c.args.line.now c.args.at c.loop.at c.args.duals.now.items c.loop.duals.items c.loop.invariant c.requires.size
    c.in-Some.symbol.value c.in-Some.symbol.end c.push.new.self.items (omega arith) c.in-Some.ensures (omega arith) (search rules)

pub returns : goal.returns
returns c = at_end (nat_eq c.loop.at (length c.args.line.now)) refl
  where
    at_end : (b : Bool) → nat_eq c.loop.at (length c.args.line.now) ≡ b → MatchBool b (AreSymbols c.args.size c.args.n c.args.line.now c.args.at c.args.duals.now.items c.loop.duals.items)
        ((xs : List ℕ) → length xs ≡ c.args.n → All (λ x. x < c.args.size) xs → drop c.args.at c.args.line.now ≢ symbols xs)
    at_end true e = adding_ends c.args.size c.args.n c.loop.counter c.args.line.now c.args.at c.loop.at c.args.duals.now.items c.loop.duals.items c.loop.invariant c.requires.size (omega arith) (grind (arith, nat_tests, e))
    at_end false e = adding_longer c.args.size c.args.n c.loop.counter c.args.line.now c.args.at c.loop.at c.args.duals.now.items c.loop.duals.items c.loop.invariant c.requires.size (omega arith) (grind (arith, nat_tests, e))
