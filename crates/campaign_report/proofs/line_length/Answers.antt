-- `campaign_report::line_length` meets its contract: five numbers, five tabs, the letter and the LF. Assumes nothing.
use mathlib.Core.Path.{ap, ◌∙◌}
use Prim.Native.Nat.{ℕ}
use native.Mathlib.Omega.{arith}
use lib.ListN.{length}
use Rattle.truth.proofs.Laws.{holds}
use Rattle.decimal.specs.Decimal.{digits_of}
use Rattle.campaign_state.proofs.Relations.{kept_from}
use Rattle.campaign_report.proofs.Texts.{line_bytes}
use Rattle.campaign_report.proofs.line_length.Goals as goal

pub blocks-requires : goal.blocks-requires
blocks-requires c =
    let s = c.before.before.before.before.before in
    (kept_from s.args.c (holds s.requires)).failures_rows

pub returns : goal.returns
returns c =
    let b = c.before in
    let d4 = b.before in
    let d3 = d4.before in
    let n = d3.before in
    let d2 = n.before in
    let d1 = d2.before in
    let s = d1.before in
    let stars = d3.digits-3.ensures.value ∙ ap (λ (k : ℕ). length (digits_of k)) n.censored.ensures in
    let billed = c.digits-5.ensures.value ∙ ap (λ (k : ℕ). length (digits_of k)) b.blocks-2.ensures in (
      omega (arith, d1.digits.ensures.value, d2.digits-2.ensures.value, stars, d4.digits-4.ensures.value, billed, line_bytes s.args.number s.args.c),
      omega (arith, d1.digits.ensures.upper_bound, d2.digits-2.ensures.upper_bound, d3.digits-3.ensures.upper_bound, d4.digits-4.ensures.upper_bound, c.digits-5.ensures.upper_bound),
    )
