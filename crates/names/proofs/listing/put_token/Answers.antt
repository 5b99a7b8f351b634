-- `put_token` meets its contract: the end, the count and the indexes put behind them are the token's bytes.
use Rattle.std.proofs.Common.{◌≡◌, ◌<◌, refl, length, get_or, rules}
use Rattle.names.proofs.Placing.{token-short, token-other, token-index-room, token-indexed}
use Rattle.names.proofs.listing.put_token.Goals as goal

pub put_indexes-requires : goal.put_indexes-requires
put_indexes-requires c = let h : get_or c.args.p.now 0 0 ≡ 91 = search rules in token-index-room c.args.p.now _ _ _ _ _ _ c.requires c.put_number.ensures c.put_number-2.ensures _ refl h

pub returns-then-p-lt2 : goal.returns-then-p-lt2
returns-then-p-lt2 c = let h : length c.args.p.now < 2 = search rules in token-short _ _ _ _ _ _ _ c.requires c.put_number.ensures c.put_number-2.ensures h

pub returns-in-91 : goal.returns-in-91
returns-in-91 c = let h : get_or c.args.p.now 0 0 ≡ 91 = search rules in token-indexed c.args.p.now _ _ _ _ _ _ c.requires c.put_number.ensures c.put_number-2.ensures _ refl h _ c.put_indexes.ensures

pub returns-else-p-lt2 : goal.returns-else-p-lt2
returns-else-p-lt2 c = let h : (get_or c.args.p.now 0 0 ≡ 91 → ⊥) = search rules in token-other _ _ _ _ _ _ _ c.requires c.put_number.ensures c.put_number-2.ensures h
