use Rattle.std.proofs.Common.{arith, rules, subst, ℕ, Bool, List, get_or, length, false, sym, ◌∙◌, ◌+◌}
use Rattle.std.proofs.lemmas.List.{get_or_read}
use Rattle.gf_theory.specs.Field.{IsModulus}
use Rattle.eval_basis.specs.Flat.{IsTable}
use Rattle.eval_basis.specs.Lists.{list_of}
use Rattle.eval_basis.specs.Found.{AreSoFar, AreWaiting, AreSearched}
use Rattle.eval_basis.proofs.Finding.{lent, so_far_none, so_far_all}
use Rattle.eval_basis.proofs.Waiting.{lent_is, numbers_in, searched_none, searched_full, searched_marked, searched_all}
use Rattle.eval_basis.proofs.members.search.Goals as goal
use Rattle.eval_basis.proofs.members.search.Goals.{then-len-n+then-index, then-len-n+else-index+in_ok-take_in, else-len-n, then-len-n-2+in_ok-settle, else-len-n-2}

pub loop-i-init : goal.loop-i-init
loop-i-init g c =
    let d = g.D.OrderDomain.domain c.args.dom.now in
    let m = g.F.Field.modulus_of c.args.f.now in
    let modular : IsModulus d.bits m = subst (λ (b : ℕ). IsModulus b m) c.requires.bits c.bits.ensures.field in
    searched_none d m c.args.points.now c.bits-2.ensures.lawful modular c.requires.points
    0 c.in_ok-ranks.ranks.items c.in_ok-vectors.vectors.items c.args.symbols.now c.args.order.now c.args.used.now c.in_ok-old.old.items c.in_ok-band.band.items c.in_ok-band.ensures.items
    (so_far_none d m c.args.points.now c.bits-2.ensures.lawful modular c.requires.points
    (g.F.Field.bits_of c.args.f.now) c.count.result c.in_ok-ranks.ranks.items c.in_ok-vectors.vectors.items c.args.symbols.now c.args.order.now c.args.used.now c.in_ok-old.old.items
    c.requires.bits c.in_ok-ranks.ensures.items c.in_ok-vectors.ensures.items c.requires.lists c.count.ensures (c.in_ok-old.ensures.items_if_clones_equal (search rules)))

pub loop-i-preserved : goal.loop-i-preserved
loop-i-preserved g c =
    let d = g.D.OrderDomain.domain c.args.dom.now in
    let m = g.F.Field.modulus_of c.args.f.now in
    let points = c.args.points.now in
    let modular : IsModulus d.bits m = subst (λ (b : ℕ). IsModulus b m) c.requires.bits c.bits.ensures.field in
    elim c.if-len-n.branch [
      | then-len-n+then-index w ↦
          rw (w.ranks-is, w.vectors-is, w.symbols-is, w.order-is, w.used-is, w.old-is, w.band-is)
          (searched_marked d m points c.bits-2.ensures.lawful modular c.requires.points
          c.loop-i.i c.loop-i.ranks.items c.loop-i.vectors.items c.loop-i.symbols c.loop-i.order c.loop-i.used c.loop-i.old.items _ c.loop-i.band.items
          (search rules) (sym (get_or_read c.loop-i.old.items c.loop-i.i w.index.result.now (search rules) w.index.ensures false) ∙ w.if-index.true)
          (lent d c.loop-i.i c.loop-i.old w.deref_mut.result.now w.mark_sums.new.old (sym c.loop-i.old.ok.0) w.deref_mut.ensures.value w.mark_sums.auto.old w.mark_sums.ensures) c.loop-i.invariant)
      | then-len-n+else-index+in_ok-take_in w ↦
          rw (w.ranks-is, w.vectors-is, w.symbols-is, w.order-is, w.used-is, w.old-is, w.band-is)
          (subst (λ (v : List Bool). AreSearched d m points (c.loop-i.i + 1) w.take_in.new.ranks.items w.take_in.new.vectors.items w.take_in.new.symbols w.take_in.new.order w.take_in.new.used v w.take_in.new.band.items)
          (sym (lent_is c.loop-i.old w.deref_mut-else-index.result.now w.take_in.new.old (sym c.loop-i.old.ok.0) w.deref_mut-else-index.ensures.value w.take_in.auto.old)) w.in_ok-take_in.ensures)
      | else-len-n w ↦
          rw (w.ranks-is, w.vectors-is, w.symbols-is, w.order-is, w.used-is, w.old-is, w.band-is)
          (searched_full d m points c.bits-2.ensures.lawful modular c.requires.points
          c.loop-i.i c.loop-i.ranks.items c.loop-i.vectors.items c.loop-i.symbols c.loop-i.order c.loop-i.used c.loop-i.old.items c.loop-i.band.items (search rules) c.loop-i.invariant)
    ]

pub in_order-requires-clause-numbers : goal.in_order-requires-clause-numbers
in_order-requires-clause-numbers g c =
    let d = g.D.OrderDomain.domain c.args.dom.now in
    let m = g.F.Field.modulus_of c.args.f.now in
    let points = c.args.points.now in
    let modular : IsModulus d.bits m = subst (λ (b : ℕ). IsModulus b m) c.requires.bits c.bits.ensures.field in
    let i = c.loop-i.i in
    elim c.if-len-n-2.branch [
      | then-len-n-2+in_ok-settle w ↦
          rw w.order-is
          (numbers_in d m points i w.settle.new.ranks.items w.settle.new.vectors.items w.settle.new.symbols w.settle.new.order w.settle.new.used w.settle.new.old
          (w.in_ok-settle.ensures.so_far i (subst (λ (v : List ℕ). AreWaiting d m points i v) (sym w.deref.ensures.value) c.loop-i.invariant.waiting)
          (subst (λ (v : List ℕ). AreSoFar d m points (get_or v 0 i) c.loop-i.ranks.items c.loop-i.vectors.items c.loop-i.symbols c.loop-i.order c.loop-i.used w.deref_mut-then-len-n-2.result.now) (sym w.deref.ensures.value)
          (subst (λ (v : List Bool). AreSoFar d m points (get_or c.loop-i.band.items 0 i) c.loop-i.ranks.items c.loop-i.vectors.items c.loop-i.symbols c.loop-i.order c.loop-i.used v) (sym w.deref_mut-then-len-n-2.ensures.value) c.loop-i.invariant.so_far))))
      | else-len-n-2 w ↦
          rw w.order-is
          (numbers_in d m points (get_or c.loop-i.band.items 0 i) c.loop-i.ranks.items c.loop-i.vectors.items c.loop-i.symbols c.loop-i.order c.loop-i.used c.loop-i.old.items c.loop-i.invariant.so_far)
    ]

pub returns : goal.returns
returns g c =
    let d = g.D.OrderDomain.domain c.args.dom.now in
    let m = g.F.Field.modulus_of c.args.f.now in
    let points = c.args.points.now in
    let modular : IsModulus d.bits m = subst (λ (b : ℕ). IsModulus b m) c.requires.bits c.bits.ensures.field in
    let i = c.loop-i.i in
    let duals = c.in_ok-duals.duals.items in
    elim c.if-len-n-2.branch [
      | then-len-n-2+in_ok-settle w ↦
          let h : AreSoFar d m points i w.settle.new.ranks.items w.settle.new.vectors.items w.settle.new.symbols w.settle.new.order w.settle.new.used w.settle.new.old =
          w.in_ok-settle.ensures.so_far i (subst (λ (v : List ℕ). AreWaiting d m points i v) (sym w.deref.ensures.value) c.loop-i.invariant.waiting)
          (subst (λ (v : List ℕ). AreSoFar d m points (get_or v 0 i) c.loop-i.ranks.items c.loop-i.vectors.items c.loop-i.symbols c.loop-i.order c.loop-i.used w.deref_mut-then-len-n-2.result.now) (sym w.deref.ensures.value)
          (subst (λ (v : List Bool). AreSoFar d m points (get_or c.loop-i.band.items 0 i) c.loop-i.ranks.items c.loop-i.vectors.items c.loop-i.symbols c.loop-i.order c.loop-i.used v) (sym w.deref_mut-then-len-n-2.ensures.value) c.loop-i.invariant.so_far)) in
          let table : IsTable (length w.settle.new.order) (list_of (length w.settle.new.order) w.settle.new.symbols w.settle.new.order) duals =
          subst (λ (v : List ℕ). IsTable (length v) (list_of (length v) w.settle.new.symbols v) duals) w.order-is
          (subst (λ (v : List ℕ). IsTable (length c.if-len-n-2.order) (list_of (length c.if-len-n-2.order) v c.if-len-n-2.order) duals) w.symbols-is c.in_ok-duals.ensures) in
          rw (w.ranks-is, w.vectors-is)
          (so_far_all d m points c.bits-2.ensures.lawful modular c.requires.points i (length w.settle.new.order) w.settle.new.ranks.items w.settle.new.vectors.items w.settle.new.symbols w.settle.new.order duals w.settle.new.used w.settle.new.old
          (omega arith) h.are_lists.n_order table h)
      | else-len-n-2 w ↦
          let h : AreSoFar d m points i c.loop-i.ranks.items c.loop-i.vectors.items c.loop-i.symbols c.loop-i.order c.loop-i.used c.loop-i.old.items =
          searched_all d m points c.bits-2.ensures.lawful modular c.requires.points i c.loop-i.ranks.items c.loop-i.vectors.items c.loop-i.symbols c.loop-i.order c.loop-i.used c.loop-i.old.items c.loop-i.band.items (search rules) c.loop-i.invariant in
          let table : IsTable (length c.loop-i.order) (list_of (length c.loop-i.order) c.loop-i.symbols c.loop-i.order) duals =
          subst (λ (v : List ℕ). IsTable (length v) (list_of (length v) c.loop-i.symbols v) duals) w.order-is
          (subst (λ (v : List ℕ). IsTable (length c.if-len-n-2.order) (list_of (length c.if-len-n-2.order) v c.if-len-n-2.order) duals) w.symbols-is c.in_ok-duals.ensures) in
          rw (w.ranks-is, w.vectors-is)
          (so_far_all d m points c.bits-2.ensures.lawful modular c.requires.points i (length c.loop-i.order) c.loop-i.ranks.items c.loop-i.vectors.items c.loop-i.symbols c.loop-i.order duals c.loop-i.used c.loop-i.old.items
          (omega arith) h.are_lists.n_order table h)
    ]
