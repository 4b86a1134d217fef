use Rattle.desk_service.proofs.Written.{by_bytes, by_station}
use Rattle.desk_service.proofs.telling.write.Goals as goal

pub returns-in-Answer : goal.returns-in-Answer
returns-in-Answer c = by_bytes c.args.room.now c.in-Answer.is c.answer_bytes.ensures c.put.ensures

pub returns-in-Held : goal.returns-in-Held
returns-in-Held c = by_station c.args.room.now c.in-Held.is c.write_plain.ensures

pub returns-in-Place : goal.returns-in-Place
returns-in-Place c = by_bytes c.args.room.now c.in-Place.is c.place_bytes.ensures c.put-in-Place.ensures

pub returns-in-Card : goal.returns-in-Card
returns-in-Card c = by_bytes c.args.room.now c.in-Card.is c.card_bytes.ensures c.put-in-Card.ensures
