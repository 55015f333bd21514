-- A program's run, from what each read gave to what is printed: the machine, a program over the driver, and the promises.
pub mod Machine
pub mod Program
pub mod Promises
