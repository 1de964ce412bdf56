-- The laws of acts, as statements.
use Rattle.std.specs.Prelude.{◌≡◌, ℕ, List}
use Rattle.rrv_model.specs.declared.record.Frame.{Frame}
use Rattle.rrv_model.specs.declared.record.Opening.{Opening}
use Rattle.order.specs.declared.act.Act.{Act}
use Rattle.acts.specs.Acts.{ActsUpTo}

-- a recording has one list of acts at most
abbrev pub ActsAreOne : Type 0
ActsAreOne =
    (o : Opening) (frames : List Frame) (n : ℕ) (acts acts' : List Act) → ActsUpTo o frames n acts → ActsUpTo o frames n acts'
    → acts ≡ acts'
