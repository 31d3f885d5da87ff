-- Network A is accepted with 8 rows; with one cell changed, each kind of fault is found in each direction.
use Prim.Native.Nat.{ℕ}
use mathlib.Core.Path.{◌≡◌, refl}
use mathlib.Core.List.{List, [], ◌∷◌}
use lib.IntN.{pos, negsuc}
use Rattle.std.specs.Prelude.{Ok, Err}
use Rattle.index.specs.declared.EdgeDirection.TheVariants.{Outgoing, Incoming}
use Rattle.index.specs.declared.Refusal.TheVariants.{Tables, Broken}
use Rattle.index.specs.Index.{END}
use Rattle.tables.specs.Net.{Net, net, with_counts, fit}
use Rattle.tables.specs.Answers.{done, refused}
use Rattle.tables.proofs.NetworkA.{heads_of, empty, network_a}
use Rattle.sound.specs.declared.Fault.TheVariants.{At, Refused}
use Rattle.sound.specs.Check.{walked, up_to, one_way, checked, told_checked}

pub accepted_a : checked network_a ≡ Ok 8
unfolding network_a checked fit one_way up_to walked
accepted_a = refl

pub told_a : told_checked (checked network_a) ≡ done (8, 0, 0)
unfolding network_a checked fit one_way up_to walked
told_a = refl

-- an empty network; a row past the counts is not looked at; counts past the rows lent
pub accepted-empty : checked (empty 3 4) ≡ Ok 0
unfolding checked fit one_way up_to walked
accepted-empty = refl

pub accepted-past : checked (net (pos 0 ∷ []) (heads_of ((7, 7) ∷ [])) (9 ∷ []) (7 ∷ 7 ∷ []) (7 ∷ 7 ∷ []) 0 0) ≡ Ok 0
unfolding checked fit one_way up_to walked
accepted-past = refl

pub refused_counts : checked (with_counts network_a 3 5) ≡ Err (Refused Tables)
unfolding network_a checked fit
refused_counts = refl

-- network A with other heads or links
abbrev heads_a : List (ℕ × ℕ)
heads_a = (2, END) ∷ (3, 3) ∷ (END, 2) ∷ []

abbrev links_a : List ℕ
links_a = END ∷ END ∷ END ∷ END ∷ 0 ∷ 1 ∷ 1 ∷ 0 ∷ []

abbrev like : List (ℕ × ℕ) → List ℕ → Net
like heads links = net (pos 5 ∷ negsuc 2 ∷ pos 8 ∷ []) (heads_of heads) (10 ∷ 11 ∷ 12 ∷ 13 ∷ []) links (0 ∷ 1 ∷ 1 ∷ 2 ∷ 0 ∷ 2 ∷ 1 ∷ 1 ∷ []) 3 4

-- node 2 has its outgoing list begin at row 4, which is neither below m nor `END`; node 0 its incoming one
pub past_outgoing : checked (like ((2, END) ∷ (3, 3) ∷ (4, 2) ∷ []) links_a) ≡ Err (At Outgoing (record { 0 = 2 }))
unfolding checked fit one_way up_to walked
past_outgoing = refl

pub past_incoming : checked (like ((2, 4) ∷ (3, 3) ∷ (END, 2) ∷ []) links_a) ≡ Err (At Incoming (record { 0 = 0 }))
unfolding checked fit one_way up_to walked
past_incoming = refl

-- node 1's lists begin with edge 2, from 0 to 2
pub strange_outgoing : checked (like ((2, END) ∷ (2, 3) ∷ (END, 2) ∷ []) links_a) ≡ Err (At Outgoing (record { 0 = 1 }))
unfolding checked fit one_way up_to walked
strange_outgoing = refl

pub strange_incoming : checked (like ((2, END) ∷ (3, 2) ∷ (END, 2) ∷ []) links_a) ≡ Err (At Incoming (record { 0 = 1 }))
unfolding checked fit one_way up_to walked
strange_incoming = refl

-- edge 0 leads to itself
pub endless_outgoing : checked (like heads_a (0 ∷ END ∷ END ∷ END ∷ 0 ∷ 1 ∷ 1 ∷ 0 ∷ [])) ≡ Err (At Outgoing (record { 0 = 0 }))
unfolding checked fit one_way up_to walked
endless_outgoing = refl

pub endless_incoming : checked (like heads_a (END ∷ 0 ∷ END ∷ END ∷ 0 ∷ 1 ∷ 1 ∷ 0 ∷ [])) ≡ Err (At Incoming (record { 0 = 1 }))
unfolding checked fit one_way up_to walked
endless_incoming = refl

-- edge 0 stands in no list of a direction: node n, which is 3
pub unlisted_outgoing : checked (like heads_a (END ∷ END ∷ END ∷ END ∷ END ∷ 1 ∷ 1 ∷ 0 ∷ [])) ≡ Err (At Outgoing (record { 0 = 3 }))
unfolding checked fit one_way up_to walked
unlisted_outgoing = refl

pub unlisted_incoming : checked (like heads_a (END ∷ END ∷ END ∷ END ∷ 0 ∷ 1 ∷ 1 ∷ END ∷ [])) ≡ Err (At Incoming (record { 0 = 3 }))
unfolding checked fit one_way up_to walked
unlisted_incoming = refl

-- a fault in either direction: the outgoing one is told, though it stands at a later node
pub both_faults : told_checked (checked (like ((2, 4) ∷ (3, 3) ∷ (4, 2) ∷ []) links_a)) ≡ refused Broken (0, 0, 2)
unfolding checked fit one_way up_to walked
both_faults = refl
