use Rattle.codec.specs.Text.{ascii}
use Rattle.report_text.specs.Lines.{total_name}
use Rattle.report_text.proofs.Text.put_name.Goals as goal

pub put_numbered-requires : goal.put_numbered-requires
unfolding total_name ascii
put_numbered-requires c = rw c.in-Kind.is at c.requires

pub returns-in-Kind : goal.returns-in-Kind
unfolding total_name ascii
returns-in-Kind c = rw c.in-Kind.is c.put_numbered.ensures

pub put_numbered-requires-in-Number : goal.put_numbered-requires-in-Number
unfolding total_name ascii
put_numbered-requires-in-Number c = rw c.in-Number.is at c.requires

pub returns-in-Number : goal.returns-in-Number
unfolding total_name ascii
returns-in-Number c = rw c.in-Number.is c.put_numbered-in-Number.ensures

pub put_numbered-requires-in-Done : goal.put_numbered-requires-in-Done
unfolding total_name ascii
put_numbered-requires-in-Done c = rw c.in-Done.is at c.requires

pub returns-in-Done : goal.returns-in-Done
unfolding total_name ascii
returns-in-Done c = rw c.in-Done.is c.put_numbered-in-Done.ensures

pub put_numbered-requires-in-Failed : goal.put_numbered-requires-in-Failed
unfolding total_name ascii
put_numbered-requires-in-Failed c = rw c.in-Failed.is at c.requires

pub returns-in-Failed : goal.returns-in-Failed
unfolding total_name ascii
returns-in-Failed c = rw c.in-Failed.is c.put_numbered-in-Failed.ensures

pub put-requires : goal.put-requires
unfolding total_name ascii
put-requires c = rw c.in-CarsIn.is at c.requires

pub returns-in-CarsIn : goal.returns-in-CarsIn
unfolding total_name ascii
returns-in-CarsIn c = rw c.in-CarsIn.is c.put.ensures

pub put-requires-in-CarsOut : goal.put-requires-in-CarsOut
unfolding total_name ascii
put-requires-in-CarsOut c = rw c.in-CarsOut.is at c.requires

pub returns-in-CarsOut : goal.returns-in-CarsOut
unfolding total_name ascii
returns-in-CarsOut c = rw c.in-CarsOut.is c.put-in-CarsOut.ensures

pub put-requires-in-MostCars : goal.put-requires-in-MostCars
unfolding total_name ascii
put-requires-in-MostCars c = rw c.in-MostCars.is at c.requires

pub returns-in-MostCars : goal.returns-in-MostCars
unfolding total_name ascii
returns-in-MostCars c = rw c.in-MostCars.is c.put-in-MostCars.ensures
