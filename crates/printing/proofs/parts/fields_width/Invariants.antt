-- The bytes counted and those of the fields left are those of all.
use Rattle.std.proofs.Common.{◌≡◌, ◌+◌, ◌*◌, ◌≤◌, length, drop}
use Rattle.printing.specs.Digits.{fields_text}
use Rattle.printing.proofs.parts.fields_width.Given as goal

abbrev pub invariant-loop-x : goal.invariant-loop-x
invariant-loop-x l =
    record {
      within : l.x-index ≤ length l.fields;
      few : l.wide ≤ 11 * l.x-index;
      is : l.wide + length (fields_text (drop l.x-index l.fields)) ≡ length (fields_text l.fields);
    }
