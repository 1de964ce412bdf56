use Rattle.std.proofs.Common.{◌<◌, ◌^◌, refl, arith}
use Rattle.rv_machine.specs.Flows.{address_at}
use Rattle.rv_machine.proofs.decoded.perform.Goals as goal

pub returns-in-Sb : goal.returns-in-Sb
returns-in-Sb g c = rw c.in-Sb.is (c.store.ensures _ _)

pub returns-in-Sh : goal.returns-in-Sh
returns-in-Sh g c = rw c.in-Sh.is (c.store-in-Sh.ensures _ _)

pub returns-in-Sw : goal.returns-in-Sw
returns-in-Sw g c = rw c.in-Sw.is (c.store-in-Sw.ensures _ _)

pub returns-in-Lr : goal.returns-in-Lr
returns-in-Lr g c = rw c.in-Lr.is (record {
  performs = c.load_reserved.ensures.executes _ c.in-Lr.field-0;
  refused = tt;
  takes = tt;
  stays = λ a same. refl;
  regs = c.load_reserved.ensures.regs;
  snapshots = refl;
})

pub returns-in-Sc : goal.returns-in-Sc
returns-in-Sc g c = rw c.in-Sc.is (c.store_conditional.ensures _ c.in-Sc.field-0)

pub returns-in-Amo : goal.returns-in-Amo
returns-in-Amo g c = rw c.in-Amo.is (c.change.ensures _ c.in-Amo.field-1 _)

pub returns-in-BeqIn : goal.returns-in-BeqIn
returns-in-BeqIn g c =
    let low : address_at c.args.page c.args.index < 2 ^ 32 = omega (arith, c.requires.page) in
    let did = c.branch_in.ensures (address_at c.args.page c.args.index) low in
    rw c.in-BeqIn.is (record {
      performs = did.executes _ _;
      refused = tt;
      takes = tt;
      stays = λ a same. refl;
      regs = did.regs;
      snapshots = refl;
    })

pub returns-in-BneIn : goal.returns-in-BneIn
returns-in-BneIn g c =
    let low : address_at c.args.page c.args.index < 2 ^ 32 = omega (arith, c.requires.page) in
    let did = c.branch_in-in-BneIn.ensures (address_at c.args.page c.args.index) low in
    rw c.in-BneIn.is (record {
      performs = did.executes _ _;
      refused = tt;
      takes = tt;
      stays = λ a same. refl;
      regs = did.regs;
      snapshots = refl;
    })

pub returns-in-BltIn : goal.returns-in-BltIn
returns-in-BltIn g c =
    let low : address_at c.args.page c.args.index < 2 ^ 32 = omega (arith, c.requires.page) in
    let did = c.branch_in-in-BltIn.ensures (address_at c.args.page c.args.index) low in
    rw c.in-BltIn.is (record {
      performs = did.executes _ _;
      refused = tt;
      takes = tt;
      stays = λ a same. refl;
      regs = did.regs;
      snapshots = refl;
    })

pub returns-in-BgeIn : goal.returns-in-BgeIn
returns-in-BgeIn g c =
    let low : address_at c.args.page c.args.index < 2 ^ 32 = omega (arith, c.requires.page) in
    let did = c.branch_in-in-BgeIn.ensures (address_at c.args.page c.args.index) low in
    rw c.in-BgeIn.is (record {
      performs = did.executes _ _;
      refused = tt;
      takes = tt;
      stays = λ a same. refl;
      regs = did.regs;
      snapshots = refl;
    })

pub returns-in-BltuIn : goal.returns-in-BltuIn
returns-in-BltuIn g c =
    let low : address_at c.args.page c.args.index < 2 ^ 32 = omega (arith, c.requires.page) in
    let did = c.branch_in-in-BltuIn.ensures (address_at c.args.page c.args.index) low in
    rw c.in-BltuIn.is (record {
      performs = did.executes _ _;
      refused = tt;
      takes = tt;
      stays = λ a same. refl;
      regs = did.regs;
      snapshots = refl;
    })

pub returns-in-BgeuIn : goal.returns-in-BgeuIn
returns-in-BgeuIn g c =
    let low : address_at c.args.page c.args.index < 2 ^ 32 = omega (arith, c.requires.page) in
    let did = c.branch_in-in-BgeuIn.ensures (address_at c.args.page c.args.index) low in
    rw c.in-BgeuIn.is (record {
      performs = did.executes _ _;
      refused = tt;
      takes = tt;
      stays = λ a same. refl;
      regs = did.regs;
      snapshots = refl;
    })
