use mathlib.Core.Path.{ap}
use Rattle.day.specs.declared.Fields.{Fields}
use Rattle.exports.proofs.rtms_time_fields.Goals as goal

pub returns : goal.returns
returns c =
    let told = c.fields-fields.ensures in
    record {
      hour_after = ap (λ (x : Fields). x.hour) told;
      minute_after = ap (λ (x : Fields). x.minute) told;
      second_after = ap (λ (x : Fields). x.second) told;
      millisecond_after = ap (λ (x : Fields). x.millisecond) told;
    }
