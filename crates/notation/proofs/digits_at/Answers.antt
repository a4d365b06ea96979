-- What the rest is behind the value of the digits passed is what the whole word is.
use mathlib.Core.Path.{◌≡◌, sym, ◌∙◌}
use native.Mathlib.Omega.{arith}
use lib.ListN.{get_or}
use Rattle.std.proofs.Common.{Some, None}
use Rattle.notation.specs.Text.{digit_of, appended}
use Rattle.notation.proofs.Words.{number_past, number_ends, number_goes, number_over}
use Rattle.notation.proofs.digits_at.Goals as goal

pub returns-in_default : goal.returns-in_default
returns-in_default g c =
    let l = c.loop-i in
    let none : digit_of g.row.BASE (get_or c.args.bytes.now l.i 0) ≡ None = sym c.digit_of.ensures ∙ c.in_default.is in
    c.number_before.ensures ∙ sym (l.invariant ∙ number_ends g.row.BASE c.args.bytes.now l.i l.value (omega arith) none)

pub returns-in_default-appended : goal.returns-in_default-appended
returns-in_default-appended g c =
    let l = c.loop-i in
    let digit : digit_of g.row.BASE (get_or c.args.bytes.now l.i 0) ≡ Some c.in-Some.digit = sym c.digit_of.ensures ∙ c.in-Some.is in
    let over : appended g.row.BASE l.value c.in-Some.digit ≡ None = sym c.appended.ensures ∙ c.in_default-appended.is in
    sym (l.invariant ∙ number_over g.row.BASE c.args.bytes.now l.i l.value (omega arith) c.in-Some.digit digit over)

pub loop-i-preserved : goal.loop-i-preserved
loop-i-preserved g c =
    let l = c.loop-i in
    let digit : digit_of g.row.BASE (get_or c.args.bytes.now l.i 0) ≡ Some c.in-Some.digit = sym c.digit_of.ensures ∙ c.in-Some.is in
    let fits : appended g.row.BASE l.value c.in-Some.digit ≡ Some c.in-Some-appended.more = sym c.appended.ensures ∙ c.in-Some-appended.is in
    l.invariant ∙ number_goes g.row.BASE c.args.bytes.now l.i l.value (omega arith) c.in-Some.digit digit c.in-Some-appended.more fits

pub returns : goal.returns
returns g c =
    let l = c.loop-i in
    let end : l.i ≡ lib.ListN.length c.args.bytes.now = omega arith in
    sym (l.invariant ∙ rw end (number_past g.row.BASE c.args.bytes.now (lib.ListN.length c.args.bytes.now) l.value (omega arith)))
