-- Document 01, "Timer orders": "MSEC > 999, SEC > 59, MIN > 59, HOUR > 23 (the manual's 1000 is a slip)" is refused.
use Rattle.std.specs.Prelude.{Result, Ok, Err, ltb, ◌+◌, ◌*◌, ◌/◌, ◌%◌}
use Rattle.common.specs.Choice.{pick}
use Rattle.day.specs.declared.TimeOfDay.{TimeOfDay}
use Rattle.day.specs.TimeOfDay.{at}
use Rattle.day.specs.declared.Fields.{Fields}
use Rattle.day.specs.declared.BadField.{BadField}

-- the time of day that fields within their ranges name
abbrev pub time_of : Fields → TimeOfDay
time_of f = at (f.hour * 3600000 + f.minute * 60000 + f.second * 1000 + f.millisecond)

-- the fields are tested in the document's order, and the first that is out of its range is told
unfoldable pub made_of : Fields → Result TimeOfDay BadField
made_of f =
    pick (ltb 999 f.millisecond) (Err BadField.Millisecond)
    (pick (ltb 59 f.second) (Err BadField.Second)
    (pick (ltb 59 f.minute) (Err BadField.Minute)
    (pick (ltb 23 f.hour) (Err BadField.Hour)
    (Ok (time_of f)))))

-- manual 2.7.2: READTIME hands out hour, minute, second and millisecond
unfoldable pub fields_of : TimeOfDay → Fields
fields_of t = record {
  hour = t.milliseconds / 3600000 % 24;
  minute = t.milliseconds / 60000 % 60;
  second = t.milliseconds / 1000 % 60;
  millisecond = t.milliseconds % 1000;
}
