-- A walk over a trace, an entry at a turn. Assumes nothing.
use Rattle.std.specs.Prelude.{ℕ, suc, ◌+◌, ◌-◌, ◌≤◌, ◌≡◌, List, length, take, drop, None, Some, Ok, Err}
use Rattle.std.proofs.Common.{sym, ap, ◌∙◌, add-one}
use Rattle.wire.proofs.laws.Wire.{tail_part}
use Rattle.entries.specs.declared.Fault.{Fault}
use Rattle.entries.specs.Entries.{Next, newest_at, entries_of, next_by}
use Rattle.entries.proofs.Turns.{Passed}
use Rattle.entries.proofs.laws.Placed.{place_written}
use Rattle.entries.proofs.laws.Next.{leads_on, next_fits}
use Rattle.trace.specs.Trace.{trace_table, trace_scan}

module _ {t : List ℕ} {at count newest : ℕ} (p : Passed trace_table t at count newest) {x : Next} (is : x ≡ next_by trace_table (take (length t - at) (drop at t))) where
  rest_is : x ≡ next_by trace_table (drop at t)
  rest_is = is ∙ ap (next_by trace_table) (tail_part t at)

  pub counted_to_end : x ≡ Ok None → count ≡ length (entries_of (trace_scan t))
  unfolding entries_of
  counted_to_end e = p.counted ∙ sym (ap (λ s. length (entries_of s)) (leads_on p.place (sym e ∙ rest_is)))

  pub counted_to_fault : {fault : Fault} → x ≡ Err fault → count ≡ length (entries_of (trace_scan t))
  counted_to_fault e = p.counted ∙ sym (ap length (leads_on p.place (sym e ∙ rest_is)).0)

  pub one_more : {n : ℕ} → x ≡ Ok (Some n) → (1 ≤ n) × (at + n ≤ length t) × Passed trace_table t (at + n) (count + 1) at
  unfolding newest_at
  one_more e =
      let fits = next_fits trace_table (drop at t) (sym e ∙ rest_is) in
      let place = leads_on p.place (sym e ∙ rest_is) in
      (fits.1, place.fits, record { entries = _; place = place; counted = add-one count ∙ ap suc p.counted; placed = place_written p.place })
